use Rattle.std.proofs.Common.{ℕ}
use Rattle.std.specs.List.{AllByRecursion}
use Rattle.std.specs.Map.{lookup}
use Rattle.std.specs.BTreeMap.{is_at}
use Rattle.std.specs.Ordering.{nat_cmp}
use Rattle.attributes.specs.Bytes.{byte_cmp}
use Rattle.block_digests.specs.Kept.{AreOfSource, digest_mapped}
use Rattle.block_digests.specs.steps.Index.{index_in}
use Rattle.block_digests.specs.steps.Mended.{digest_among}
use Rattle.block_digests.proofs.GatherLemmas.{IsGathered}
use Rattle.block_digests.proofs.blocks.digests_in.Given as goal

abbrev pub invariant-loop-source : goal.invariant-loop-source
invariant-loop-source g l =
    ((k : ℕ) → IsGathered byte_cmp (λ ks. digest_among (g.E.Arrivals.arrivals l.events) l.blocks (lookup (is_at (nat_cmp k)) ks)) (index_in l.index.entries) (index_in l.source-iterator) (λ source. digest_mapped l.digests source k))
    × AllByRecursion (λ e. AreOfSource e.1) l.digests.entries
