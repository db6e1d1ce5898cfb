use Rattle.std.proofs.Common.{◌≡◌, map, take}
use Rattle.block_digests.specs.steps.Mended.{rows_at}
use Rattle.block_digests.proofs.blocks.rows_at.Given as goal

abbrev pub invariant-loop-i : goal.invariant-loop-i
invariant-loop-i g l = map (λ r. (r.0, r.1.now)) l.set.keys ≡ rows_at (g.E.Arrivals.arrivals l.events) (take l.i l.places)
