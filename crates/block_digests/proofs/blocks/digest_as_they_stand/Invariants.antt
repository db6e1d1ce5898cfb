use Rattle.std.proofs.Common.{◌≡◌, ℕ, List, take}
use Rattle.sha2.specs.Hashers.{Holds256}
use Rattle.block_digests.specs.Block.{lines}
use Rattle.block_digests.specs.steps.Mended.{events_at}
use Rattle.block_digests.proofs.blocks.digest_as_they_stand.Given as goal

abbrev pub invariant-loop-i : goal.invariant-loop-i
invariant-loop-i g l = (m : List ℕ) × (Holds256 l.hasher m × (m ≡ lines (events_at (g.E.Arrivals.arrivals l.events) (take l.i l.places))))
