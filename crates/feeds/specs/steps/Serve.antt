-- Workers on their way: their jobs, and what came of them.
use Rattle.std.specs.Prelude.{◌≡◌, ◌+◌, ℕ, List, [], ◌∷◌, ◌++◌, length, map}
use Rattle.atomic_table.specs.Seated.{TableId}
use Rattle.attributes.specs.Event.{EventValue}
use Rattle.site.specs.declared.call.Call.{Call}
use Rattle.turn_lock.specs.declared.machine.Entry.{Entry}
use Rattle.turn_lock.specs.History.{StartsWith, made_by}
use Rattle.views.specs.declared.query.Query.{Query}
use Rattle.site_lock.specs.Pass.{ShownPass, Steps, leaves}
use Rattle.feeds.specs.Ask.{Asks}
use Rattle.feeds.specs.Gate.{IsGated}
use Rattle.feeds.specs.Pull.{PullsBy}
use Rattle.feeds.specs.Report.{Feeds}
use Rattle.feeds.specs.Serve.{HasCalls, worker_of}
use Rattle.feeds.specs.declared.asking.Asked.{Asked}
use Rattle.feeds.specs.declared.report.Report.{Report}
use Rattle.feeds.specs.declared.serving.worker.Finished.{Finished}
use Rattle.feeds.specs.declared.serving.worker.Job.{Job}
use Rattle.feeds.specs.declared.serving.worker.JobEnd.{JobEnd}
use Rattle.feeds.specs.declared.serving.worker.JobEnd.TheVariants.{Answered, Reported}
use Rattle.feeds.specs.declared.serving.worker.Pending.{Pending}
use Rattle.feeds.specs.declared.serving.worker.Work.{Work}
use Rattle.feeds.specs.declared.serving.worker.Work.TheVariants as work

-- all the work of feeds, peers and asks, in the order of the workers
abbrev pub works_of : List (List ℕ) → List (List EventValue) → List (List Query) → List Work
works_of feeds peers asks = map work.Feed feeds ++ (map work.Pull peers ++ map work.Ask asks)

abbrev pub pending_works : Pending → List Work
pending_works p = works_of p.feeds.items p.peers.items p.asks.items

-- by these calls of a desk, which then has these arrivals, this came of the work; the gate let the
-- worker make just those, and those of its peer, if it pulled
module _ (lets shuts heard : ℕ → ℕ → Type 0) where
  abbrev pub Performs : ℕ → Work → List Call → List EventValue → JobEnd → Type 0
  Performs worker (work.Feed b) m B (Reported r) =
      Feeds b m r × IsGated lets shuts heard worker (length m) r.ended
  Performs worker (work.Pull A) m B (Reported r) = (pages : List Call) × PullsBy A pages m B r
      × IsGated lets shuts heard worker (length pages + length m) r.ended
  Performs worker (work.Ask queries) m B (Answered r) =
      Asks queries m r × IsGated lets shuts heard worker (length m) r.ended
  Performs worker (work.Feed b) m B (Answered r) = ⊥
  Performs worker (work.Pull A) m B (Answered r) = ⊥
  Performs worker (work.Ask queries) m B (Reported r) = ⊥

-- the job for this piece of work, with the pass of the worker at this place
pub record IsJobAt (p : ShownPass) (place : ℕ) (w : Work) (j : Job) : Type 0 where
  pub worker : j.worker ≡ place
  pub work : j.work ≡ w
  pub table : j.pass.table ≡ p.table
  pub number : j.pass.number ≡ worker_of p place
  pub opening : j.pass.opening ≡ p.opening
  pub unused : j.pass.mine ≡ []

-- a worker did this job, in calls that the gate let through
abbrev pub EndsJob : (ℕ → ℕ → Type 0) → (ℕ → ℕ → Type 0) → (ℕ → ℕ → Type 0) → Job → Finished → Type 0
EndsJob lets shuts heard j f = (m : List Call) × Steps j.pass f.pass m
    × Performs lets shuts heard j.worker j.work m (leaves f.pass) f.outcome

-- of workers and their jobs: the two lists have one length, and this holds at each place
abbrev pub Each : {A : Type 0} → {B : Type 0} → (A → B → Type 0) → List A → List B → Type 0
Each Holds [] [] = Unit {0}
Each Holds [] (y ∷ ys) = ⊥
Each Holds (x ∷ xs) [] = ⊥
Each Holds (x ∷ xs) (y ∷ ys) = Holds x y × Each Holds xs ys

-- the passes of all workers' jobs are of this site
abbrev pub AreAt : TableId → List Job → Type 0
AreAt t [] = Unit {0}
AreAt t (j ∷ js) = (j.pass.table ≡ t) × AreAt t js

abbrev pub AllAt : TableId → List Finished → Type 0
AllAt t [] = Unit {0}
AllAt t (f ∷ fs) = (f.pass.table ≡ t) × AllAt t fs

-- the history has all that each worker saw, and under its number just its own calls
abbrev pub AllTold : List (Entry Call) → List Finished → Type 0
AllTold seen [] = Unit {0}
AllTold seen (f ∷ fs) = StartsWith seen f.pass.seen × (made_by f.pass.number seen ≡ f.pass.mine)
    × AllTold seen fs

abbrev pub outcomes : List Finished → List JobEnd
outcomes fs = map (λ f. f.outcome) fs

-- the reports and the answers of workers among what came of jobs
abbrev pub reports_by : JobEnd → List Report
reports_by (Reported r) = r ∷ []
reports_by (Answered r) = []

abbrev pub answers_by : JobEnd → List Asked
answers_by (Reported r) = []
answers_by (Answered r) = r ∷ []

abbrev pub reports_in : List JobEnd → List Report
reports_in [] = []
reports_in (o ∷ os) = reports_by o ++ reports_in os

abbrev pub answers_in : List JobEnd → List Asked
answers_in [] = []
answers_in (o ∷ os) = answers_by o ++ answers_in os

-- what came of the work by the calls that q has seen of the worker at this place
abbrev pub WorkerTells : (ℕ → ℕ → Type 0) → (ℕ → ℕ → Type 0) → (ℕ → ℕ → Type 0) → ShownPass → ShownPass → ℕ
    → Work → JobEnd → Type 0
WorkerTells lets shuts heard p q place w o = (m : List Call)
    × HasCalls q.seen (worker_of p place) m × Performs lets shuts heard place w m (leaves q) o
