-- The gaps of a summary, entry by entry.
use Rattle.std.specs.Prelude.{◌≡◌, List, [], ◌∷◌, Bool, true, false, filter}
use Rattle.coverage.specs.Intervals.{Interval, Forms, IsMissing}
use Rattle.coverage.specs.Summary.{Entry, Entries}

-- whether a row of `gaps` has an interval
abbrev pub has_any : List Interval → Bool
has_any [] = false
has_any (p ∷ ps) = true

-- whether the source has a gap, and so a line in the answer to `gaps`
abbrev pub has_gap : Entry → Bool
has_gap row = has_any row.1

-- for each entry of a summary the source with what is missing of its numbers, for `gaps`
abbrev pub AreMissing : Entries → Entries → Type 0
AreMissing [] [] = Unit {0}
AreMissing (e ∷ es) (row ∷ rows) =
    (row.0 ≡ e.0) × Forms row.1 (IsMissing e.1) × AreMissing es rows
AreMissing _ _ = ⊥

-- rows of `gaps`: what is missing for each entry of a summary, without sources that lack nothing
abbrev pub AreGapsOf : Entries → Entries → Type 0
AreGapsOf entries rows =
    (all : Entries) × AreMissing entries all × (rows ≡ filter has_gap all)
