-- The entries of a map by source of maps by block, seen as the digests of a summary.
use Rattle.std.specs.Prelude.{◌≡◌, ◌≢◌, ℕ, List, [], map}
use Rattle.std.specs.List.{AllByRecursion}
use Rattle.std.specs.List.Sorted.{IsStrictlySortedBy}
use Rattle.std.specs.Map.{keys_of}
use Rattle.std.specs.Ordering.{nat_cmp}
use Rattle.std.specs.BTreeMap.{BTreeMap}
use Rattle.std.specs.String.{string_bytes}
use Rattle.std.specs.declared.string.String.{String}
use Rattle.attributes.specs.Bytes.{byte_cmp}
use Rattle.attributes.specs.Event.{EventValue}
use Rattle.inbox.specs.Sets.{set_of}
use Rattle.block_digests.specs.Digest.{digest_in}
use Rattle.coverage.specs.BlockDigests.{Blocks, SourceBlocks, block_digest, blocks_of}

-- a summary's digests of a source, with the bytes of the source
abbrev pub blocks_entry : {Y : Type 0} → String Y × BTreeMap ℕ (List ℕ) → List ℕ × Blocks
blocks_entry e = (string_bytes e.0, e.1.entries)

-- a summary's entries of digests with the bytes of their sources
abbrev pub blocks_in : {Y : Type 0} → List (String Y × BTreeMap ℕ (List ℕ)) → SourceBlocks
blocks_in es = map blocks_entry es

-- a summary's digests of the blocks of the set of A, and no source without one, in byte order
pub record AreDigestsIn (A : List EventValue) (ds : SourceBlocks) : Type 0 where
  pub found : (source : List ℕ) (k : ℕ)
      → block_digest (blocks_of ds source) k ≡ digest_in (set_of A) source k
  pub of_sources : AllByRecursion (λ b. (b.1 ≢ []) × IsStrictlySortedBy nat_cmp (keys_of b.1)) ds
  pub in_order : IsStrictlySortedBy byte_cmp (keys_of ds)
