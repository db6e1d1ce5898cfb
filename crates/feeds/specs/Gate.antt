-- What the gate let a worker do.
use Rattle.std.specs.Prelude.{◌≡◌, ◌+◌, ℕ}
use Rattle.site.specs.Gate.{LetsThrough}
use Rattle.feeds.specs.declared.report.WorkerEnd.{WorkerEnd}
use Rattle.feeds.specs.declared.report.WorkerEnd.TheVariants.{GateShut}

-- the gate let the worker make each of so many calls, counted from 1, and was told of each; a
-- worker that ended at a shut gate found it shut before the next one
pub record IsGated (lets shuts heard : ℕ → ℕ → Type 0) (worker calls : ℕ) (ended : WorkerEnd)
    : Type 0 where
  pub through : LetsThrough lets heard worker 0 calls
  pub shut : ended ≡ GateShut → shuts worker (calls + 1)
