-- Blocks of a list A of arrivals as they are kept: the places of their events, and digests. A
-- site's set is the set of its arrivals.
use Rattle.std.specs.Prelude.{◌≡◌, ◌≢◌, ◌+◌, ◌-◌, ◌++◌, ℕ, List, [], ◌∷◌, Option, Some, None, length, slice_get, take, if◌then◌else◌}
use Rattle.std.specs.Option.{option_and_then, option_map_or}
use Rattle.std.specs.List.{AllByRecursion}
use Rattle.std.specs.List.Sorted.{IsStrictlySortedBy}
use Rattle.std.specs.Map.{keys_of, lookup}
use Rattle.std.specs.BTreeMap.{BTreeMap, get, get_by_text, is_at}
use Rattle.std.specs.Ordering.{nat_cmp}
use Rattle.std.specs.String.{string_cmp}
use Rattle.std.specs.declared.string.String.{String}
use Rattle.attributes.specs.Bytes.{byte_cmp}
use Rattle.attributes.specs.Event.{EventValue}
use Rattle.inbox.specs.Sets.{set_of}
use Rattle.block_digests.specs.Block.{is_in_block}
use Rattle.block_digests.specs.Digest.{digest_in}

-- the places of a block's events, and its digest, none where it is stale
pub record KeptBlock : Type 0 where
  pub places : List ℕ
  pub digest : Option (List ℕ)

-- blocks with digests; sources in byte order, each with its blocks' numbers and where they stand
pub record KeptBlocks : Type 0 where
  pub index : List (List ℕ × List (ℕ × ℕ))
  pub blocks : List KeptBlock

-- where the block of a source stands among those kept with digests, where it has one
abbrev pub position_of : List (List ℕ × List (ℕ × ℕ)) → List ℕ → ℕ → Option ℕ
position_of index source k =
    option_and_then (λ ks. lookup (is_at (nat_cmp k)) ks) (lookup (is_at (byte_cmp source)) index)

-- what is kept for a digest of a source and the number of a block, where something is
abbrev pub block_at : KeptBlocks → List ℕ → ℕ → Option KeptBlock
block_at kept source k = option_and_then (slice_get kept.blocks) (position_of kept.index source k)

-- the places of events that are kept for a block's digest
abbrev pub places_at : KeptBlocks → List ℕ → ℕ → List ℕ
places_at kept source k = option_map_or (λ b. b.places) (block_at kept source k) []

-- the digest that is kept for a block, none where it is stale or nothing is kept
abbrev pub digest_kept : KeptBlocks → List ℕ → ℕ → Option (List ℕ)
digest_kept kept source k = option_map_or (λ b. b.digest) (block_at kept source k) None

-- the places of a block's events in a list of arrivals, ascending, where its first stands at i
abbrev pub places_from : ℕ → List EventValue → List ℕ → ℕ → List ℕ
places_from i [] source k = []
places_from i (e ∷ A) source k =
    if is_in_block source k e then i ∷ places_from (i + 1) A source k
    else places_from (i + 1) A source k

-- where in a list of arrivals the events of a block stand: ascending, the first place is 0
abbrev pub places_of : List EventValue → List ℕ → ℕ → List ℕ
places_of A source k = places_from 0 A source k

-- the places of each block are those of its events, and a digest that is there is the block's
pub record IsKeptOf (A : List EventValue) (kept : KeptBlocks) : Type 0 where
  pub places : (source : List ℕ) (k : ℕ) → places_at kept source k ≡ places_of A source k
  pub digests : (source : List ℕ) (k : ℕ) (d : List ℕ) → digest_kept kept source k ≡ Some d
      → digest_in (set_of A) source k ≡ Some d

-- no block is stale: each has the digest of its events, and there is none where there are no events
abbrev pub HasDigestsOf : List EventValue → KeptBlocks → Type 0
HasDigestsOf A kept = (source : List ℕ) (k : ℕ)
    → digest_kept kept source k ≡ digest_in (set_of A) source k

-- the event stands at the place, its block's digest is stale, and the other blocks are as they were
abbrev pub IsNoted : EventValue → ℕ → KeptBlocks → KeptBlocks → Type 0
IsNoted e place old new = (source : List ℕ) (k : ℕ)
    → (places_at new source k
    ≡ (if is_in_block source k e then places_at old source k ++ place ∷ []
    else places_at old source k))
    × (digest_kept new source k
    ≡ (if is_in_block source k e then None else digest_kept old source k))

-- the place that was noted last for the event's block is gone, the block's digest is stale, and the
-- other blocks are as they were
abbrev pub IsForgotten : EventValue → KeptBlocks → KeptBlocks → Type 0
IsForgotten e old new = (source : List ℕ) (k : ℕ)
    → (places_at new source k
    ≡ (if is_in_block source k e
    then take (length (places_at old source k) - 1) (places_at old source k)
    else places_at old source k))
    × (digest_kept new source k
    ≡ (if is_in_block source k e then None else digest_kept old source k))

-- the blocks have the same places and digests
abbrev pub KeepsDigests : KeptBlocks → KeptBlocks → Type 0
KeepsDigests old new = (source : List ℕ) (k : ℕ) → (places_at new source k ≡ places_at old source k)
    × (digest_kept new source k ≡ digest_kept old source k)

-- a map of digests by source and number of a block, as it is iterated
abbrev pub DigestMap : Type 0 → Type 0
DigestMap Y = BTreeMap (String Y) (BTreeMap ℕ (List ℕ))

-- the digests of a source: there is one, and they ascend by the numbers of their blocks
abbrev pub AreOfSource : BTreeMap ℕ (List ℕ) → Type 0
AreOfSource blocks = (blocks.entries ≢ []) × IsStrictlySortedBy nat_cmp (keys_of blocks.entries)

-- the digest of a source's block in a map, where it has one
abbrev pub digest_mapped : {Y : Type 0} → DigestMap Y → List ℕ → ℕ → Option (List ℕ)
digest_mapped digests source k = option_and_then (λ m. get nat_cmp m k) (get_by_text digests source)

-- the map has the digests of the blocks of the set of A, and no source without one, in byte order
pub record AreDigestsOf {Y : Type 0} (A : List EventValue) (digests : DigestMap Y) : Type 0 where
  pub found : (source : List ℕ) (k : ℕ)
      → digest_mapped digests source k ≡ digest_in (set_of A) source k
  pub of_sources : AllByRecursion (λ e. AreOfSource e.1) digests.entries
  pub in_order : IsStrictlySortedBy string_cmp (keys_of digests.entries)
