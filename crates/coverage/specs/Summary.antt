-- Which numbers of each source have been seen, and from version 2 on the digests of their blocks.
pub use Rattle.coverage.specs.Numbers.{byte_cmp, Entry, Entries, IsEntry, AreEntries}
pub use Rattle.coverage.specs.Numbers.{AreSourcesInOrder, AreListed, numbers_in, holds_in}
use Rattle.std.specs.Prelude.{◌≡◌, ℕ, Bool, true, List, Option, is_some, if◌then◌else◌}
use Rattle.std.specs.Map.{keys_of}
use Rattle.coverage.specs.Intervals.{Interval}
use Rattle.coverage.specs.BlockDigests.{HasDigests, SourceBlocks}

-- a summary: the entries of sources, and the digests of their blocks, which version 1 has none of
pub record Sources : Type 0 where
  pub entries : Entries
  pub digests : Option SourceBlocks

-- the entries of a summary: its sources with their intervals
abbrev pub entries_of : Sources → Entries
entries_of s = s.entries

-- the sources of a summary
abbrev pub sources_of : Sources → List (List ℕ)
sources_of s = keys_of s.entries

-- a summary: allowed sources in byte order, each with its intervals, and in version 2 digests of
-- just the blocks that hold a number of them
pub record IsSummary (s : Sources) : Type 0 where
  pub listed : AreListed s.entries
  pub digests : HasDigests s.entries s.digests

-- the version of a summary: 2 where there are digests, and else 1
abbrev pub version_of : Sources → ℕ
version_of s = if is_some s.digests then 2 else 1

-- the intervals of a source in the summary, none where it is absent
abbrev pub numbers_of : Sources → List ℕ → List Interval
numbers_of s source = numbers_in s.entries source

-- the summary holds the number for the source
abbrev pub holds_at : Sources → List ℕ → ℕ → Bool
holds_at s source n = holds_in s.entries source n

-- every number that the second summary holds for a source is held by the first
abbrev pub Covers : Sources → Sources → Type 0
Covers s t = (source : List ℕ) (n : ℕ) → holds_at t source n ≡ true → holds_at s source n ≡ true
