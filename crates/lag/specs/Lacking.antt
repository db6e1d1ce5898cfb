-- How many numbers one summary has that another lacks.
use Rattle.std.specs.Prelude.{◌≡◌, ◌+◌, ◌&&◌, ℕ, List, [], ◌∷◌, not}
use Rattle.coverage.specs.Intervals.{Interval, IsCanonical, holds, size_of}
use Rattle.coverage.specs.Summary.{Entries, Sources, numbers_of}

-- the numbers that a summary lags by: those of the first list that the second doesn't hold
pub record IsRest (numbers held rest : List Interval) : Type 0 where
  pub canonical : IsCanonical rest
  pub members : (n : ℕ) → holds rest n ≡ (holds numbers n && not (holds held n))

-- a summary lags by so many of a source's numbers, which it doesn't hold
abbrev pub LacksOf : List Interval → List Interval → ℕ → Type 0
LacksOf held numbers count =
    (rest : List Interval) × IsRest numbers held rest × (count ≡ size_of rest)

-- so many numbers of these entries the summary lags by, source by source
abbrev pub Lacks : Sources → Entries → ℕ → Type 0
Lacks own [] count = count ≡ 0
Lacks own (e ∷ es) count = (one : ℕ) × LacksOf (numbers_of own e.0) e.1 one
    × ((more : ℕ) × Lacks own es more × (count ≡ one + more))
