-- What reports come to together.
use Rattle.std.specs.Prelude.{ℕ, ◌+◌, ◌-◌, List, [], ◌∷◌, Option, None}
use Rattle.std.specs.Option.{option_or}
use Rattle.feeds.specs.declared.report.Report.{Report}
use Rattle.run_command.specs.Fault.{of_end}
use Rattle.run_command.specs.declared.fault.RunFault.{RunFault}

-- the fault of a run's first worker that has one; the first stands at this place, and so many of
-- them are feeds, which come before the others
abbrev pub first_fault : ℕ → ℕ → List Report → Option RunFault
first_fault place feeds [] = None
first_fault place feeds (r ∷ rs) =
    option_or (of_end place feeds r.ended) (first_fault (place + 1) (feeds - 1) rs)

-- how many events the workers of a run read
abbrev pub read_in : List Report → ℕ
read_in [] = 0
read_in (r ∷ rs) = r.read + read_in rs

-- how many events that the workers of a run read had no number
abbrev pub refused_in : List Report → ℕ
refused_in [] = 0
refused_in (r ∷ rs) = r.refused + refused_in rs
