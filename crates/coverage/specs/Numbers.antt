-- Which numbers of each source have been seen, as a list.
pub use Rattle.attributes.specs.Bytes.{byte_cmp}
use Rattle.std.specs.Prelude.{◌≡◌, ◌≢◌, ℕ, Bool, true, List, [], ◌∷◌, bytes_eq, if◌then◌else◌}
use Rattle.std.specs.Str.{IsUtf8}
use Rattle.std.specs.Map.{keys_of}
use Rattle.std.specs.List.{AllByRecursion}
use Rattle.std.specs.List.Sorted.{IsStrictlySortedBy}
use Rattle.attributes.specs.Character.{is_filled}
use Rattle.coverage.specs.Intervals.{Interval, IsCanonical, holds}

-- a summary's source with the intervals of its numbers
abbrev pub Entry : Type 0
Entry = List ℕ × List Interval

-- a summary's sources, each with the intervals of its numbers
abbrev pub Entries : Type 0
Entries = List Entry

-- an entry of a summary: an allowed source, with at least one number
abbrev pub IsEntry : Entry → Type 0
IsEntry e = IsUtf8 e.0 × (is_filled e.0 ≡ true) × (e.1 ≢ []) × IsCanonical e.1

-- every entry of a summary is an allowed source with at least one number
abbrev pub AreEntries : Entries → Type 0
AreEntries es = AllByRecursion IsEntry es

-- the sources of a summary's entries
abbrev pub names_in : Entries → List (List ℕ)
names_in es = keys_of es

-- the sources of a summary ascend by bytes
abbrev pub AreSourcesInOrder : Entries → Type 0
AreSourcesInOrder es = IsStrictlySortedBy byte_cmp (names_in es)

-- a summary's allowed sources in byte order, each with its intervals, of which one at least
abbrev pub AreListed : Entries → Type 0
AreListed es = AreEntries es × AreSourcesInOrder es

-- the intervals of a source in a summary, none where it is absent
abbrev pub numbers_in : Entries → List ℕ → List Interval
numbers_in [] source = []
numbers_in (e ∷ es) source = if bytes_eq source e.0 then e.1 else numbers_in es source

-- whether the number stands in an interval of the source in a summary
abbrev pub holds_in : Entries → List ℕ → ℕ → Bool
holds_in es source n = holds (numbers_in es source) n

-- every number that the second summary has for a source is one of the first
abbrev pub AreCovered : Entries → Entries → Type 0
AreCovered es fs =
    (source : List ℕ) (n : ℕ) → holds_in fs source n ≡ true → holds_in es source n ≡ true
