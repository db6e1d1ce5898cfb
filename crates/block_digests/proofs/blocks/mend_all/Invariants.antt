use Rattle.std.proofs.Common.{◌≡◌, ◌<◌, ◌≤◌, ℕ, slice_get, vec_len}
use Rattle.std.specs.Option.{option_map}
use Rattle.block_digests.specs.steps.Mended.{mended}
use Rattle.block_digests.proofs.blocks.mend_all.Given as goal

-- the first blocks are mended, and the others are as they were
abbrev pub invariant-loop-i : goal.invariant-loop-i
invariant-loop-i g l = (vec_len l.blocks ≡ vec_len l.initial.blocks)
    × ((j : ℕ) → (j < l.i → slice_get l.blocks.items j ≡ option_map (mended (g.E.Arrivals.arrivals l.events)) (slice_get l.initial.blocks.items j))
    × (l.i ≤ j → slice_get l.blocks.items j ≡ slice_get l.initial.blocks.items j))
