use Rattle.std.proofs.Common.{◌∙◌, Err, IsTrue, ap, inl, inr, subst, sym}
use Rattle.std.proofs.lemmas.Result.{IfErr-weaker, IfOk-weaker}
use Rattle.sqlite.specs.Held.{state}
use Rattle.sqlite.specs.State.{HasCleanDisk, Survives}
use Rattle.sqlite.proofs.StateLemmas.{survives_then, survives_weaker}
use Rattle.inbox_table.specs.Calls.{IsSettled}
use Rattle.inbox_table.specs.Rows.{IsInbox}
use Rattle.databases.specs.Fault.{of_table}
use Rattle.databases.specs.Held.{Holds, IsTaken, IsUntold, KeepsOrTakes, KeepsRows, MayHoldMore}
use Rattle.databases.proofs.BesideLemmas.{service_over, service_same}
use Rattle.databases.proofs.HeldLemmas.{held_may_more, inbox_holds, known_so, on_ok, on_okay, table_foreign, table_untold, took_may_more, untold_so}
use Rattle.database_commands.proofs.intake.take.Goals as goal

pub returns-in-Ok-clause-left : goal.returns-in-Ok-clause-left
returns-in-Ok-clause-left g c clean still =
    let old = (state g.S.Store c.args.conn).now in
    let last = c.kept-outcome.new.table in
    let late : HasCleanDisk (state g.S.Store last.conn) = subst (λ h. HasCleanDisk (state g.S.Store h)) c.into_connection-conn.ensures clean in
    let open_late : IsTrue (state g.S.Store last.conn).is_open = subst (λ h. IsTrue (state g.S.Store h).is_open) c.into_connection-conn.ensures still in
    let early = c.kept-outcome.ensures.clean late in
    IfErr-weaker c.kept-outcome.result _ _
    (λ f left. subst (λ h. KeepsOrTakes c.args.events.now f old (state g.S.Store h).now) (sym c.into_connection-conn.ensures)
    (λ held holds. let box = c.in-Ok.ensures.held early held holds in elim left [
      | inl same ↦ inl (inbox_holds _ held (subst (λ d. IsInbox d held) (sym same) box))
      | inr took ↦ inr (took.0, inbox_holds _ _ (took.1 held box))
    ]))
    (c.kept-outcome.ensures.left late open_late)

pub returns-in-Err-clause-left : goal.returns-in-Err-clause-left
returns-in-Err-clause-left g c clean still held holds = inl (subst (λ d. Holds d held) (sym (c.in-Err.ensures.back clean still)) holds)

pub returns-in-Ok-clause-beside : goal.returns-in-Ok-clause-beside
returns-in-Ok-clause-beside g c clean still =
    let last = c.kept-outcome.new.table in
    let late : HasCleanDisk (state g.S.Store last.conn) = subst (λ h. HasCleanDisk (state g.S.Store h)) c.into_connection-conn.ensures clean in
    let open_late : IsTrue (state g.S.Store last.conn).is_open = subst (λ h. IsTrue (state g.S.Store h).is_open) c.into_connection-conn.ensures still in
    let early = c.kept-outcome.ensures.clean late in
    subst (λ h. KeepsRows (state g.S.Store c.args.conn).now (state g.S.Store h).now) (sym c.into_connection-conn.ensures)
    (service_over _ _ _ (c.in-Ok.ensures.beside early) (c.kept-outcome.ensures.beside late open_late))

pub returns-in-Err-clause-beside : goal.returns-in-Err-clause-beside
returns-in-Err-clause-beside g c clean still = service_same _ _ (c.in-Err.ensures.back clean still)

pub returns-in-Ok-clause-upgraded : goal.returns-in-Ok-clause-upgraded
returns-in-Ok-clause-upgraded g c clean =
    let late : HasCleanDisk (state g.S.Store c.kept-outcome.new.table.conn) = subst (λ h. HasCleanDisk (state g.S.Store h)) c.into_connection-conn.ensures clean in
    on_ok c.kept-outcome.result _ (c.in-Ok.ensures.upgraded (c.kept-outcome.ensures.clean late))

pub returns-in-Ok-clause-stays_open : goal.returns-in-Ok-clause-stays_open
returns-in-Ok-clause-stays_open g c clean =
    let late : HasCleanDisk (state g.S.Store c.kept-outcome.new.table.conn) = subst (λ h. HasCleanDisk (state g.S.Store h)) c.into_connection-conn.ensures clean in
    on_okay c.kept-outcome.result _ _ (λ still. subst (λ h. IsTrue (state g.S.Store h).is_open) (sym c.into_connection-conn.ensures) still) (c.kept-outcome.ensures.stays_open late)

pub returns-in-Ok-clause-settled : goal.returns-in-Ok-clause-settled
returns-in-Ok-clause-settled g c clean =
    let late : HasCleanDisk (state g.S.Store c.kept-outcome.new.table.conn) = subst (λ h. HasCleanDisk (state g.S.Store h)) c.into_connection-conn.ensures clean in
    on_okay c.kept-outcome.result _ _ (λ leaves. subst (λ h. IsSettled (state g.S.Store h)) (sym c.into_connection-conn.ensures) leaves) (c.kept-outcome.ensures.settled late)

pub returns-in-Ok-clause-crash : goal.returns-in-Ok-clause-crash
returns-in-Ok-clause-crash g c =
    let old = state g.S.Store c.args.conn in
    let mid = state g.S.Store c.in-Ok.table.conn in
    let last = c.kept-outcome.new.table in
    subst (λ h. Survives old (state g.S.Store h) (MayHoldMore c.args.events.now old.now)) (sym c.into_connection-conn.ensures)
    (survives_then old mid (state g.S.Store last.conn) _ _ (MayHoldMore c.args.events.now old.now)
    (λ clean trees may. held_may_more c.args.events.now old.now trees may)
    (λ clean trees may.
    let early = c.kept-outcome.ensures.clean clean in
    let (held, was) = c.in-Ok.ensures.found early in
    took_may_more c.args.events.now old.now mid.now trees held was (c.in-Ok.ensures.held early held was) (c.in-Ok.ensures.beside early) (may (c.in-Ok.ensures.stays_open early)))
    c.in-Ok.ensures.crash c.kept-outcome.ensures.crash)

pub returns-in-Err-clause-crash : goal.returns-in-Err-clause-crash
returns-in-Err-clause-crash g c = survives_weaker _ _ _ _ (λ clean trees may. held_may_more c.args.events.now _ trees may) c.in-Err.ensures.crash_refused

pub returns-in-Ok-clause-taken : goal.returns-in-Ok-clause-taken
returns-in-Ok-clause-taken g c clean =
    let late : HasCleanDisk (state g.S.Store c.kept-outcome.new.table.conn) = subst (λ h. HasCleanDisk (state g.S.Store h)) c.into_connection-conn.ensures clean in
    let early = c.kept-outcome.ensures.clean late in
    IfOk-weaker c.kept-outcome.result _ _
    (λ text taken held holds. subst (λ h. IsTaken c.args.events.now held (state g.S.Store h).now text) (sym c.into_connection-conn.ensures) (taken held (c.in-Ok.ensures.held early held holds)))
    (c.kept-outcome.ensures.taken late)

pub returns-in-Ok-clause-foreign : goal.returns-in-Ok-clause-foreign
returns-in-Ok-clause-foreign g c = IfErr-weaker c.kept-outcome.result _ _ (λ f told is clean. absurd (known_so f told is)) c.kept-outcome.ensures.fault

pub returns-in-Ok-clause-both : goal.returns-in-Ok-clause-both
returns-in-Ok-clause-both g c both = absurd (c.in-Ok.ensures.both both)

pub returns-in-Err-clause-foreign : goal.returns-in-Err-clause-foreign
returns-in-Err-clause-foreign g c is clean = c.in-Err.ensures.foreign (table_foreign c.in-Err.refused.fault (sym c.of_table.ensures ∙ is)) clean

pub returns-in-Err-clause-both : goal.returns-in-Err-clause-both
returns-in-Err-clause-both g c both = ap Err (c.of_table.ensures ∙ ap of_table (c.in-Err.ensures.both both))

pub returns-in-Ok-clause-fault : goal.returns-in-Ok-clause-fault
returns-in-Ok-clause-fault g c = IfErr-weaker c.kept-outcome.result _ _ (λ f told. untold_so f told) c.kept-outcome.ensures.fault

pub returns-in-Err-clause-fault : goal.returns-in-Err-clause-fault
returns-in-Err-clause-fault g c = subst IsUntold (sym c.of_table.ensures) (table_untold c.in-Err.refused.fault)
