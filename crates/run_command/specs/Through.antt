-- What workers of a run did, each of whose calls a gate let through.
use Rattle.std.specs.Prelude.{◌≡◌, ◌+◌, ◌-◌, ◌^◌, ℕ, List, min}
use Rattle.std.specs.List.{AllByRecursion}
use Rattle.attributes.specs.Event.{EventValue}
use Rattle.views.specs.declared.query.Query.{Query}
use Rattle.site_lock.specs.Pass.{ShownPass}
use Rattle.feeds.specs.Serve.{ServesJobs}
use Rattle.feeds.specs.declared.report.Report.{Report}
use Rattle.feeds.specs.declared.report.WorkerEnd.TheVariants.{Done}
use Rattle.feeds.specs.declared.serving.Served.{Served}
use Rattle.inbox_table.specs.Calls.{IsTold}

module _ (lets shuts heard : ℕ → ℕ → Type 0) where
  -- the workers did these jobs over one shared site, by calls that the gate let through, each under
  -- the worker's place, and was told of
  abbrev pub ServesThrough : List (List ℕ) → List (List EventValue) → List (List Query) → Served
      → Type 0
  ServesThrough feeds peers asks s =
      (p : ShownPass) × (q : ShownPass) × ServesJobs lets shuts heard p q feeds peers asks s

  -- and all feeds and peers were done
  abbrev pub DoneThrough : List (List ℕ) → List (List EventValue) → List (List Query) → Type 0
  DoneThrough feeds peers asks = (s : Served) × ServesThrough feeds peers asks s
      × AllByRecursion (λ (r : Report). r.ended ≡ Done) s.reports.items

-- a run's watch was told of the rest of so many arrivals, of which so many were kept before: after
-- each thousand, how many of them the table has
abbrev pub IsToldOfRest : (ℕ → ℕ → Type 0) → ℕ → ℕ → Type 0
IsToldOfRest told before all = IsTold (λ count rest. told (min (before + count) (2 ^ 64 - 1))
    (min (before + rest) (2 ^ 64 - 1))) (all - before)
