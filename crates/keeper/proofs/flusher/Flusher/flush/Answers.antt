use Rattle.std.proofs.Common.{◌≡◌, ◌∙◌, None, Some, false, rules, subst, true}
use Rattle.sqlite.specs.Held.{state}
use Rattle.keeper.proofs.FlushLemmas.{refused, stepped}
use Rattle.keeper.proofs.GatherLemmas.{pages_leave}
use Rattle.keeper.proofs.flusher.Flusher.flush.Goals as goal
use Rattle.keeper.specs.Flush.{Flushing, Turns}

pub returns-in-Ok : goal.returns-in-Ok
returns-in-Ok g c =
    let it = c.self.inside in
    let none : it.fault ≡ None = search rules in
    let after : Flushing _ = record { site = it.shared.now; keeper = c.steps.new.self; pass = c.steps.new.pass; fault = it.fault } in
    subst (λ (f : Flushing _). Turns (λ conn. state g.S.Store conn) f after true) c.self.view_is
    (stepped (λ conn. state g.S.Store conn) it.shared.now it.keeper c.steps.new.self it.pass c.steps.new.pass it.fault none c.in-Ok.ensures.asked c.in-Ok.ensures.keeps.keeps.list c.in-Ok.field-0 c.in-Ok.ensures.keeps.grew c.in-Ok.ensures.keeps.page c.in-Ok.ensures.keeps.stays_open)

pub returns-in-Err : goal.returns-in-Err
returns-in-Err g c =
    let it = c.self.inside in
    let none : it.fault ≡ None = search rules in
    let after : Flushing _ = record { site = it.shared.now; keeper = c.steps.new.self; pass = c.steps.new.pass; fault = Some c.of.result } in
    subst (λ (f : Flushing _). Turns (λ conn. state g.S.Store conn) f after false) c.self.view_is
    (refused (λ conn. state g.S.Store conn) it.shared.now it.keeper c.steps.new.self it.pass c.steps.new.pass it.fault none c.in-Err.ensures.asked c.in-Err.ensures.keeps.keeps.list c.of.result c.in-Err.ensures.keeps.keeps.mark_same)

pub invariant_of-self : goal.invariant_of-self
invariant_of-self g c = ((pages_leave _ _ _ _ c.steps.ensures.asked).same.table ∙ c.self.invariant.0, c.steps.ensures.keeps.first)

pub invariant_of-self-in-Err : goal.invariant_of-self-in-Err
invariant_of-self-in-Err g c = ((pages_leave _ _ _ _ c.steps.ensures.asked).same.table ∙ c.self.invariant.0, c.steps.ensures.keeps.first)
