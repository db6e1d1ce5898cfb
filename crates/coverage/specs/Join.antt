-- What two summaries say together, each source whole from one of them.
use Rattle.std.specs.Prelude.{ℕ, ◌==◌, ◌&&◌, List, [], ◌∷◌, if◌then◌else◌}
use Rattle.coverage.specs.Intervals.{Interval}

-- what the one summary says of a source where it has numbers of it, and else what the other says
abbrev pub chosen : {X : Type 0} → List Interval → X → X → X
chosen [] own other = other
chosen (p ∷ ps) own other = own

-- the joined summary's version: 2 where both versions are 2, and else 1
abbrev pub joined_version : ℕ → ℕ → ℕ
joined_version own other = if (own == 2) && (other == 2) then 2 else 1
