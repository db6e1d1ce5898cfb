use Rattle.std.proofs.Common.{Some}
use Rattle.std.specs.BTreeMap.{get}
use Rattle.std.specs.Ordering.{nat_cmp}
use Rattle.block_digests.specs.steps.Mended.{digest_among}
use Rattle.block_digests.proofs.GatherLemmas.{IsGathered}
use Rattle.block_digests.proofs.blocks.digests_among.Given as goal

abbrev pub invariant-loop-k : goal.invariant-loop-k
invariant-loop-k g l =
    IsGathered nat_cmp (λ i. digest_among (g.E.Arrivals.arrivals l.events) l.blocks (Some i)) l.index.entries l.k-iterator (λ k. get nat_cmp l.digests k)
