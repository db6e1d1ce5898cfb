use Rattle.std.proofs.Common.{◌≡◌, ℕ, ◌+◌, ◌<◌, length, slice_index, true}
use Rattle.block_digests.specs.steps.Mended.{is_rise}
use Rattle.block_digests.proofs.blocks.are_rising.Given as goal

abbrev pub invariant-loop-i : goal.invariant-loop-i
invariant-loop-i g l = (j : ℕ) → j < l.i → j + 1 < length l.places → is_rise (g.E.Arrivals.arrivals l.events) (slice_index l.places j) (slice_index l.places (j + 1)) ≡ true
