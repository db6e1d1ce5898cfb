-- What came of workers over one shared site, each with a pass of its own that was split off one.
use Rattle.std.specs.Prelude.{◌≡◌, ℕ, ◌+◌, List, [], ◌∷◌, ◌++◌, length, map}
use Rattle.attributes.specs.Event.{EventValue}
use Rattle.site.specs.declared.call.Call.{Call}
use Rattle.turn_lock.specs.declared.machine.Entry.{Entry}
use Rattle.turn_lock.specs.History.{entry, made_by}
use Rattle.views.specs.declared.query.Query.{Query}
use Rattle.site_lock.specs.Pass.{ShownPass, leaves}
use Rattle.feeds.specs.Ask.{Asks}
use Rattle.feeds.specs.Gate.{IsGated}
use Rattle.feeds.specs.Pull.{PullsBy}
use Rattle.feeds.specs.Report.{Feeds}
use Rattle.feeds.specs.declared.asking.Asked.{Asked}
use Rattle.feeds.specs.declared.report.Report.{Report}
use Rattle.feeds.specs.declared.serving.ServeFault.{ServeFault}
use Rattle.feeds.specs.declared.serving.ServeFault.TheVariants.{NoThread, OutOfMemory}
use Rattle.feeds.specs.declared.serving.Served.{Served}

-- the number of each fault of a start of workers
abbrev pub fault_number : ServeFault → ℕ
fault_number OutOfMemory = 1
fault_number NoThread = 2

-- the number of the pass that the worker at this place has: the passes are split off one, in the
-- order of the places, behind those that it gave away before
abbrev pub worker_of : ShownPass → ℕ → List ℕ
worker_of p place = p.number ++ (p.splits + place) ∷ []

-- the history has just these calls under this worker's number
abbrev pub HasCalls : List (Entry Call) → List ℕ → List Call → Type 0
HasCalls seen number calls = made_by number seen ≡ map (entry number) calls

-- what workers did, each of whose calls the gate let through under the worker's place, and was told
-- of
module _ (lets shuts heard : ℕ → ℕ → Type 0) where
  -- the calls that q has seen of the worker at this place are those of a feed of these bytes with
  -- this report, and no others went through the gate
  abbrev pub WorkerFeeds : ShownPass → ShownPass → ℕ → List ℕ → Report → Type 0
  WorkerFeeds p q place b r = (m : List Call) × HasCalls q.seen (worker_of p place) m
      × Feeds b m r × IsGated lets shuts heard place (length m) r.ended

  -- they are those of a pull from a site with these arrivals; where it was done, all that it
  -- brought is there after what q has seen. Its calls of that site went through the gate too, and
  -- no others
  abbrev pub WorkerPulls : ShownPass → ShownPass → ℕ → List EventValue → Report → Type 0
  WorkerPulls p q place A r = (m : List Call) × HasCalls q.seen (worker_of p place) m
      × (pages : List Call) × PullsBy A pages m (leaves q) r
      × IsGated lets shuts heard place (length pages + length m) r.ended

  -- they are those of a worker that asked these questions and was answered so, and no others went
  -- through the gate
  abbrev pub WorkerAsks : ShownPass → ShownPass → ℕ → List Query → Asked → Type 0
  WorkerAsks p q place queries r = (m : List Call) × HasCalls q.seen (worker_of p place) m
      × Asks queries m r × IsGated lets shuts heard place (length m) r.ended

-- of workers by their places: the two lists have one length, and this holds of what stands at each
-- place, where the first place has this number
abbrev pub EachAt : {A : Type 0} → {B : Type 0} → (ℕ → A → B → Type 0) → ℕ → List A → List B
    → Type 0
EachAt Holds place [] [] = Unit {0}
EachAt Holds place [] (y ∷ ys) = ⊥
EachAt Holds place (x ∷ xs) [] = ⊥
EachAt Holds place (x ∷ xs) (y ∷ ys) = Holds place x y × EachAt Holds (place + 1) xs ys

-- what came of these jobs, between p and q: for each a result of its own, in their order, which
-- tells of the calls that q has seen of the job's worker. Workers are counted over the feeds, the
-- peers and then the asks, so each has a number of its own
pub record ServesJobs (lets shuts heard : ℕ → ℕ → Type 0) (p q : ShownPass) (feeds : List (List ℕ))
    (peers : List (List EventValue)) (asks : List (List Query)) (s : Served) : Type 0 where
  pub fed : List Report
  pub pulled : List Report
  pub reports : s.reports.items ≡ fed ++ pulled
  pub each_feed : EachAt (WorkerFeeds lets shuts heard p q) 0 feeds fed
  pub each_peer : EachAt (WorkerPulls lets shuts heard p q) (length feeds) peers pulled
  pub each_ask : EachAt (WorkerAsks lets shuts heard p q) (length feeds + length peers) asks
      s.asked.items
