-- How digests of blocks fit numbers, source by source.
use Rattle.std.specs.Prelude.{◌≡◌, ◌↔◌, ℕ, List, [], ◌∷◌, true, IsTrue, is_some}
use Rattle.std.specs.List.{AllByRecursion}
use Rattle.std.specs.List.Sorted.{IsStrictlySortedBy}
use Rattle.std.specs.Map.{keys_of}
use Rattle.std.specs.Ordering.{nat_cmp}
use Rattle.block_digests.specs.Block.{block_of}
use Rattle.coverage.specs.BlockDigests.{Blocks, IsDigest, SourceBlocks, block_digest}
use Rattle.coverage.specs.Intervals.{Interval, holds}
use Rattle.coverage.specs.Numbers.{Entries}

-- a summary's intervals hold a number of the block
abbrev pub HoldsIn : List Interval → ℕ → Type 0
HoldsIn ps k = (n : ℕ) × ((holds ps n ≡ true) × (block_of n ≡ k))

-- just the blocks that hold a number of a summary's intervals
abbrev pub AreJust : List Interval → Blocks → Type 0
AreJust ps bs = (k : ℕ) → IsTrue (is_some (block_digest bs k)) ↔ HoldsIn ps k

-- a summary's digests of blocks, which ascend
abbrev pub AreAscending : Blocks → Type 0
AreAscending bs =
    IsStrictlySortedBy nat_cmp (keys_of bs) × AllByRecursion (λ d. IsDigest d.1) bs

-- a summary's digests of just the blocks of the intervals
abbrev pub Fits : List Interval → Blocks → Type 0
Fits ps bs = AreAscending bs × AreJust ps bs

-- the same sources of a summary, each with digests that fit its intervals
abbrev pub AllFit : Entries → SourceBlocks → Type 0
AllFit [] [] = Unit {0}
AllFit [] (d ∷ ds) = ⊥
AllFit (e ∷ es) [] = ⊥
AllFit (e ∷ es) (d ∷ ds) = (d.0 ≡ e.0) × Fits e.1 d.1 × AllFit es ds
