-- Which numbers the events of a set E have, and which are missing.
pub use Rattle.block_digests.specs.Number.{has_number, is_number, is_numbered, number_or_0}
use Rattle.std.specs.Prelude.{◌≡◌, ◌≤◌, ◌<◌, ◌↔◌, IsTrue, ℕ, List, true, false}
use Rattle.attributes.specs.Event.{EventValue}
use Rattle.coverage.specs.Summary.{AreListed, Entries, IsSummary, Sources, holds_at, holds_in}
use Rattle.coverage.specs.Summary.{version_of}

-- the summary, such as the answer to `cover`, holds just the sources and numbers of the set E
abbrev pub HasNumbers : List EventValue → Sources → Type 0
HasNumbers E summary =
    (source : List ℕ) (n : ℕ) → holds_at summary source n ≡ has_number E source n

-- the answer to `cover` is of version 1, and holds just the sources and numbers of the set E
pub record Sums (E : List EventValue) (summary : Sources) : Type 0 where
  pub version : version_of summary ≡ 1
  pub in_form : IsSummary summary
  pub exact : HasNumbers E summary

-- what `gaps` tells: a number from 1 on that no event of E has, though its source has a greater one
abbrev pub IsGap : List EventValue → List ℕ → ℕ → Type 0
IsGap E source n =
    (1 ≤ n) × (has_number E source n ≡ false)
    × ((m : ℕ) × ((n < m) × (has_number E source m ≡ true)))

-- the answer to `gaps`: sources with a gap, each once and in byte order, each with its intervals
pub record AreGaps (E : List EventValue) (rows : Entries) : Type 0 where
  pub in_form : AreListed rows
  pub exact : (source : List ℕ) (n : ℕ) → IsTrue (holds_in rows source n) ↔ IsGap E source n
