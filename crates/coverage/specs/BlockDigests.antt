-- The digests of sources' blocks as a list, and what makes them those of a summary.
use Rattle.std.specs.Prelude.{◌≡◌, ◌≢◌, ◌↔◌, ℕ, List, [], true, length, IsTrue, Option, Some, None, is_some}
use Rattle.std.specs.List.{AllByRecursion}
use Rattle.std.specs.List.Sorted.{IsStrictlySortedBy}
use Rattle.std.specs.Option.{option_map_or}
use Rattle.std.specs.Map.{keys_of, lookup}
use Rattle.std.specs.BTreeMap.{is_at}
use Rattle.std.specs.Ordering.{nat_cmp}
use Rattle.hex.specs.Hex.{IsBytes}
use Rattle.block_digests.specs.Block.{block_of}
use Rattle.coverage.specs.Numbers.{byte_cmp, Entries, holds_in}

-- a summary's digests of a source's blocks, by the blocks' numbers
abbrev pub Blocks : Type 0
Blocks = List (ℕ × List ℕ)

-- a summary's sources, each with the digests of its blocks
abbrev pub SourceBlocks : Type 0
SourceBlocks = List (List ℕ × Blocks)

-- the summary's digest of a block, where it has one
abbrev pub block_digest : Blocks → ℕ → Option (List ℕ)
block_digest bs k = lookup (is_at (nat_cmp k)) bs

-- the summary's blocks of a source, none where it is absent
abbrev pub blocks_of : SourceBlocks → List ℕ → Blocks
blocks_of ds source = option_map_or (λ bs. bs) (lookup (is_at (byte_cmp source)) ds) []

-- a summary's digest: 32 bytes
abbrev pub IsDigest : List ℕ → Type 0
IsDigest d = (length d ≡ 32) × IsBytes d

-- a summary's source with digests of blocks, which ascend
abbrev pub AreBlocks : List ℕ × Blocks → Type 0
AreBlocks b =
    (b.1 ≢ []) × IsStrictlySortedBy nat_cmp (keys_of b.1) × AllByRecursion (λ d. IsDigest d.1) b.1

-- the intervals of a source in a summary hold a number of the block
abbrev pub HasNumberIn : Entries → List ℕ → ℕ → Type 0
HasNumberIn es source k = (n : ℕ) × ((holds_in es source n ≡ true) × (block_of n ≡ k))

-- the digests of a summary: the same sources, and for each just the blocks that hold a number of it
pub record AreDigests (es : Entries) (ds : SourceBlocks) : Type 0 where
  pub blocks : AllByRecursion AreBlocks ds
  pub sources : keys_of ds ≡ keys_of es
  pub exact : (source : List ℕ) (k : ℕ)
      → IsTrue (is_some (block_digest (blocks_of ds source) k)) ↔ HasNumberIn es source k

-- a summary's digests of either version: version 1 has none
abbrev pub HasDigests : Entries → Option SourceBlocks → Type 0
HasDigests es None = Unit {0}
HasDigests es (Some ds) = AreDigests es ds
