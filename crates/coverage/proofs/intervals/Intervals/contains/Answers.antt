use Rattle.std.proofs.Common.{sym, ap₂, ◌∙◌}
use Rattle.coverage.specs.Intervals.{holds}
use Rattle.coverage.proofs.InsertLemmas.{held_by_last, absent_with_none}
use Rattle.coverage.proofs.intervals.Intervals.contains.Goals as goal

pub returns-in-Some : goal.returns-in-Some
returns-in-Some c =
    held_by_last _ _ (_, c.in-Some.last) c.self.invariant c.in-Some.ensures ∙ ap₂ holds c.self.view_is c.number-n.ensures.value

pub returns-in-None : goal.returns-in-None
returns-in-None c = sym (absent_with_none _ _ c.self.invariant c.in-None.ensures) ∙ ap₂ holds c.self.view_is c.number-n.ensures.value
