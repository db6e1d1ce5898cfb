-- Where blocks stand in a list, by a map of maps.
use Rattle.std.specs.Prelude.{◌≡◌, ◌<◌, ℕ, List, Option, Some, map}
use Rattle.std.specs.BTreeMap.{BTreeMap}
use Rattle.std.specs.String.{string_bytes}
use Rattle.std.specs.declared.string.String.{String}
use Rattle.block_digests.specs.Kept.{KeptBlocks, KeptBlock, position_of}

-- the index of kept digests: sources, each with the numbers of its blocks and where they stand
abbrev pub Index : Type 0 → Type 0
Index Y = BTreeMap (String Y) (BTreeMap ℕ ℕ)

module _ {Y : Type 0} where
  -- a source's bytes, with where its blocks stand
  abbrev pub index_entry : String Y × BTreeMap ℕ ℕ → List ℕ × List (ℕ × ℕ)
  index_entry e = (string_bytes e.0, e.1.entries)

  -- the same of each source
  abbrev pub index_in : List (String Y × BTreeMap ℕ ℕ) → List (List ℕ × List (ℕ × ℕ))
  index_in es = map index_entry es

  -- where a block of a source stands
  abbrev pub position : Index Y → List ℕ → ℕ → Option ℕ
  position index source k = position_of (index_in index.entries) source k

  -- what is kept by them
  abbrev pub kept_in : Index Y → List KeptBlock → KeptBlocks
  kept_in index blocks = record { index = index_in index.entries; blocks = blocks }

  -- each position is one of the list's, and stands for one block
  pub record IsIndex (index : Index Y) (n : ℕ) : Type 0 where
    pub in_range : (source : List ℕ) (k i : ℕ) → position index source k ≡ Some i → i < n
    pub once : (source other : List ℕ) (k j i : ℕ) → position index source k ≡ Some i
        → position index other j ≡ Some i
        → (source ≡ other) × (k ≡ j)
