use Rattle.std.proofs.Common.{ap, ◌∙◌}
use Rattle.coverage.specs.Intervals.{rises_from}
use Rattle.coverage.proofs.HoldsLemmas.{rises_from-nil}
use Rattle.coverage.proofs.ReadDigestsLemmas.{past_last, places_all, places_more, places_none}
use Rattle.coverage.proofs.digests.read.numbers_of_blocks.Goals as goal

pub loop-k-init : goal.loop-k-init
loop-k-init c = places_none _ _ _ c.into_iter-k-iterator.ensures.into_iter_gives.0 (ap (rises_from 1) c.empty-found.ensures.list ∙ rises_from-nil 1) c.empty-found.ensures.members

pub returns-in_default : goal.returns-in_default
returns-in_default c = past_last _ _ _ (c.in-Some.k.now, c.in-Some.field-0-1.now) _ c.loop-k.invariant c.in-Some.ensures.steps c.in_default.ensures

pub loop-k-preserved : goal.loop-k-preserved
loop-k-preserved c =
    places_more _ _ _ _ (c.in-Some.k.now, c.in-Some.field-0-1.now) _ _ c.loop-k.invariant c.in-Some.ensures.steps c.in-Some-place_of.ensures c.insert.ensures.canonical c.in_ok-insert.ensures.members

pub returns : goal.returns
returns c = (c.loop-k.invariant.canonical, places_all _ _ _ c.loop-k.invariant c.in-None.ensures.steps.0)
