use Rattle.std.proofs.Common.{ap, ◌∙◌}
use Rattle.std.proofs.lemmas.List.{take_all}
use Rattle.coverage.specs.Intervals.{rises_from}
use Rattle.coverage.proofs.LookLemmas.{insert_entry-next}
use Rattle.coverage.proofs.intervals.Intervals.of_pairs.Goals as goal

pub loop-interval-preserved : goal.loop-interval-preserved
loop-interval-preserved c =
    c.in_ok-insert.ensures.entries ∙ insert_entry-next _ _ _ c.requires c.loop-interval-test.true c.loop-interval.invariant

pub invariant_of-result : goal.invariant_of-result
invariant_of-result c = ap (rises_from 1) (c.loop-interval.invariant ∙ take_all _ _ c.loop-interval-test.false) ∙ c.requires
