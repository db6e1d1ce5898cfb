use Rattle.std.proofs.Common.{◌≡◌, ◌∙◌, IsTrue, List, ap, subst, sym, inl, inr}
use Rattle.sqlite.specs.Held.{Held, state}
use Rattle.sqlite.specs.State.{HasCleanDisk, Survives}
use Rattle.attributes.specs.Event.{EventValue}
use Rattle.inbox_table.specs.Rows.{IsInbox}
use Rattle.databases.specs.Fault.{of_table}
use Rattle.databases.specs.Held.{Holds, IsNoInbox, KeepsEvents}
use Rattle.databases.specs.declared.fault.CommandFault.TheVariants as command
use Rattle.run_command.specs.Outcome.{MayRun}
use Rattle.run_command.proofs.EndLemmas.{inbox_holds, ran_on, table_foreign, unbegun_may}
use Rattle.run_command.proofs.ending.run.Goals as goal

pub returns-in-Ok-clause-left : goal.returns-in-Ok-clause-left
returns-in-Ok-clause-left g c = elim c.run_table.ensures.left [
  | inl e ↦ inl (record {
    why = command.OutOfMemory;
    told = ap (λ z. z.outcome) e;
    unstopped = ap (λ z. z.stopped) e;
    same = λ clean is_open held h.
        let clean0 = c.run_table.ensures.grows.was_clean clean in
        let box : IsInbox (state g.S.Store c.in-Ok.loaded.table.conn).now held = subst (λ (z : List EventValue). IsInbox (state g.S.Store c.in-Ok.loaded.table.conn).now z) (c.in-Ok.ensures.events clean0 held h) (c.in-Ok.ensures.found clean0) in
        subst (λ z. Holds (state g.S.Store z).now held) (sym (ap (λ z. z.conn) e)) (inbox_holds (state g.S.Store c.in-Ok.loaded.table.conn).now held box);
    foreign = λ is. absurd (let bad : command.OutOfMemory ≡ command.Foreign = is in cc);
    both = λ both. absurd (c.in-Ok.ensures.both both);
  })
  | inr h ↦ inr (
    _,
    (λ clean held holds. let clean0 = c.run_table.ensures.grows.was_clean clean in (c.in-Ok.ensures.found clean0).once ∙ c.in-Ok.ensures.events clean0 held holds),
    h,
  )
]

pub returns-in-Err-clause-left : goal.returns-in-Err-clause-left
returns-in-Err-clause-left g c = inl (record {
  why = c.of_table.result;
  told = ap (λ z. z.outcome) c.unbegun.ensures;
  unstopped = ap (λ z. z.stopped) c.unbegun.ensures;
  same = subst (λ (z : Held _). HasCleanDisk (state g.S.Store z) → IsTrue (state g.S.Store z).is_open → KeepsEvents (state g.S.Store c.args.conn).now (state g.S.Store z).now)
      (sym (ap (λ z. z.conn) c.unbegun.ensures)) (λ clean is_open held h. subst (λ d. Holds d held) (sym (c.in-Err.ensures.back clean is_open)) h);
  foreign = λ is. subst (λ (z : Held _). HasCleanDisk (state g.S.Store z) → IsNoInbox (state g.S.Store c.args.conn).now)
      (sym (ap (λ z. z.conn) c.unbegun.ensures)) (c.in-Err.ensures.foreign (table_foreign c.in-Err.refused.fault (sym c.of_table.ensures ∙ is)));
  both = λ both. c.of_table.ensures ∙ ap of_table (c.in-Err.ensures.both both);
})

pub returns-in-Ok-clause-crash : goal.returns-in-Ok-clause-crash
returns-in-Ok-clause-crash g c =
    let e = c.in-Ok.ensures in
    ran_on (state g.S.Store c.args.conn) (state g.S.Store c.in-Ok.loaded.table.conn) (state g.S.Store c.run_table.result.conn)
    c.in-Ok.loaded.events e.crash e.held e.found e.stays_open c.run_table.ensures.grows

pub returns-in-Err-clause-crash : goal.returns-in-Err-clause-crash
returns-in-Err-clause-crash g c =
    subst (λ (z : Held _). Survives (state g.S.Store c.args.conn) (state g.S.Store z) (MayRun (state g.S.Store c.args.conn).now))
    (sym (ap (λ z. z.conn) c.unbegun.ensures)) (unbegun_may _ _ c.in-Err.ensures.crash_refused)
