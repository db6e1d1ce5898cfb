-- How far a worker is, as it counts its calls.
use Rattle.std.specs.Prelude.{◌≡◌, ◌+◌, ℕ, Option, None, Some, Result, Ok, Err}
use Rattle.site.specs.Gate.{LetsThrough}
use Rattle.feeds.specs.declared.report.WorkerEnd.{WorkerEnd}
use Rattle.feeds.specs.declared.report.WorkerEnd.TheVariants.{GateShut}

-- the gate let the worker make so many calls behind the first ones, which it counts where nothing
-- ended it, or was shut before the next one
pub record GoesThrough (lets shuts heard : ℕ → ℕ → Type 0) (worker first count last : ℕ)
    (o : Option WorkerEnd) : Type 0 where
  pub through : LetsThrough lets heard worker first count
  pub counts : o ≡ None → last ≡ first + count
  pub shut : o ≡ Some GateShut → shuts worker (first + count + 1)

-- why a step of a worker ended it, if it did
abbrev pub end_if : {A : Type 0} → Result A WorkerEnd → Option WorkerEnd
end_if (Ok a) = None
end_if (Err ended) = Some ended
