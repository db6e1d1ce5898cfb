use Rattle.std.proofs.Common.{◌≡◌, ◌∙◌, ◌≤◌, ◌-◌, ℕ, Some, None, arith, refl, rules, subst, sym, string_bytes}
use Rattle.std.specs.Prelude.{Option}
use Rattle.sqlite.specs.Held.{state}
use Rattle.database_commands.proofs.RowLemmas.{IsSent, read_none, read_on, sent_last, sent_next, sent_none}
use Rattle.database_commands.proofs.service.row_lines.Goals as goal

pub loop-init : goal.loop-init
loop-init g c =
    let it = c.args.service.now in
    let mark = c.first_mark-mark.result in
    let ahead : it.base ≤ mark = omega (arith, c.base.ensures.base, c.first_mark-mark.ensures.0) in
    let as_far : mark - it.base ≡ c.args.after - it.base = omega (arith, c.base.ensures.base, c.first_mark-mark.ensures.1) in (
      subst (λ l. IsSent it.source it.base c.args.after (state g.S.Store it.conn) (state g.S.Store it.conn) l mark) (sym c.new-lines.ensures.bytes)
          (sent_none it.source it.base c.args.after mark (state g.S.Store it.conn) ahead as_far),
      refl,
      refl,
      (λ clean still. still),
      read_none (state g.S.Store it.conn),
    )

pub returns-in-Ok-None-clause-rows : goal.returns-in-Ok-None-clause-rows
returns-in-Ok-None-clause-rows g c =
    let it = c.args.service.now in
    let there : ◌≡◌ {A = Option ℕ} None c.in-Ok-None.field-0 = search rules in
    let all = sent_last it.source it.base c.args.after (state g.S.Store it.conn) (state g.S.Store c.loop.service.conn) (state g.S.Store c.next_page.new.service.conn) (string_bytes c.loop.lines) (string_bytes c.next_page.new.lines) c.loop.mark
    c.loop.service.source c.loop.service.base c.in-Ok-None.field-0 c.loop.invariant.1 c.loop.invariant.2 there c.loop.invariant.0 c.in-Ok-None.ensures.page c.in-Ok-None.ensures.same c.in-Ok-None.ensures.open in
    (all.0, c.from_string.ensures ∙ all.1, all.2, all.3)

pub loop-preserved : goal.loop-preserved
loop-preserved g c =
    let it = c.args.service.now in
    let there : ◌≡◌ {A = Option ℕ} (Some c.in-Ok-Some.next) c.in-Ok-Some.field-0 = search rules in (
      sent_next it.source it.base c.args.after (state g.S.Store it.conn) (state g.S.Store c.loop.service.conn) (state g.S.Store c.next_page.new.service.conn) (string_bytes c.loop.lines) (string_bytes c.next_page.new.lines) c.loop.mark
          c.loop.service.source c.loop.service.base c.in-Ok-Some.field-0 c.in-Ok-Some.next c.loop.invariant.1 c.loop.invariant.2 there c.loop.invariant.0 c.in-Ok-Some.ensures.page c.in-Ok-Some.ensures.same c.in-Ok-Some.ensures.open,
      c.in-Ok-Some.ensures.kept.0 ∙ c.loop.invariant.1,
      c.in-Ok-Some.ensures.kept.1 ∙ c.loop.invariant.2,
      (λ clean still. c.in-Ok-Some.ensures.stays_open clean),
      read_on (state g.S.Store it.conn) (state g.S.Store c.loop.service.conn) (state g.S.Store c.next_page.new.service.conn) c.loop.invariant.0.same c.loop.invariant.3 c.loop.invariant.4 c.in-Ok-Some.ensures.same c.in-Ok-Some.ensures.crash,
    )

pub returns-in-Ok-None-clause-crash : goal.returns-in-Ok-None-clause-crash
returns-in-Ok-None-clause-crash g c =
    read_on (state g.S.Store c.args.service.now.conn) (state g.S.Store c.loop.service.conn) (state g.S.Store c.next_page.new.service.conn) c.loop.invariant.0.same c.loop.invariant.3 c.loop.invariant.4
    c.in-Ok-None.ensures.same c.in-Ok-None.ensures.crash

pub returns-in-Err-clause-crash : goal.returns-in-Err-clause-crash
returns-in-Err-clause-crash g c =
    read_on (state g.S.Store c.args.service.now.conn) (state g.S.Store c.loop.service.conn) (state g.S.Store c.next_page.new.service.conn) c.loop.invariant.0.same c.loop.invariant.3 c.loop.invariant.4
    c.in-Err.ensures.same c.in-Err.ensures.crash
