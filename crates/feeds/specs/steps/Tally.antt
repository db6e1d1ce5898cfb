-- What a worker has counted on its way.
use Rattle.std.specs.Prelude.{◌≡◌, ◌⊎◌, ◌+◌, ◌<◌, List, [], ◌∷◌, ◌++◌, length, true, false}
use Rattle.std.specs.Prelude.{Option, None, Some}
use Rattle.attributes.specs.Event.{EventValue}
use Rattle.inbox.specs.KeyOrder.{key_cmp}
use Rattle.inbox.specs.Ordered.{append_new}
use Rattle.inbox.specs.declared.inbox.Short.{Short}
use Rattle.site.specs.Page.{max_page}
use Rattle.site.specs.declared.call.Call.{Call}
use Rattle.site.specs.declared.desk.DeskFault.{DeskFault}
use Rattle.site.specs.declared.desk.DeskFault.TheVariants.{OutOfMemory}
use Rattle.feeds.specs.Report.{AreAnswered, AreTakes, EndsRefused, Handles, fresh_of, handled}
use Rattle.feeds.specs.Report.{is_with_number, repeated_of, sequenced, unsequenced}
use Rattle.feeds.specs.declared.report.WorkerEnd.{WorkerEnd}
use Rattle.feeds.specs.declared.report.WorkerEnd.TheVariants as ended
use Rattle.feeds.specs.declared.report.Tally.{Tally}

-- the worker's tally grew by just these calls
pub record Counted (m : List Call) (t u : Tally) : Type 0 where
  pub fresh : u.fresh ≡ t.fresh + fresh_of m
  pub repeated : u.repeated ≡ t.repeated + repeated_of m
  pub refused : u.refused ≡ t.refused
  pub all : fresh_of m + repeated_of m ≡ length (handled m)

-- what ended a worker at these calls, if anything did: the last of them was refused, or the gate
-- was shut before the next
abbrev pub StopsBy : List Call → Option WorkerEnd → Type 0
StopsBy m None = AreAnswered m
StopsBy m (Some ended.OutOfMemory) = EndsRefused m
StopsBy m (Some ended.GateShut) = AreAnswered m
StopsBy m (Some _) = ⊥

-- a worker handed over one batch to the desk, whole if nothing ended it
pub record Flushed (m : List Call) (batch left : List EventValue) (t u : Tally)
    (o : Option WorkerEnd) : Type 0 where
  pub handles : Handles m batch
  pub counted : Counted m t u
  pub whole : o ≡ None → (handled m ≡ batch) × (left ≡ [])
  pub stop : StopsBy m o

-- a worker handed a batch to the desk, or the batch was not full and nothing was done
abbrev pub FlushedIfFull : List Call → List EventValue → List EventValue → Tally → Tally
    → Option WorkerEnd → Type 0
FlushedIfFull m batch left t u o = Flushed m batch left t u o
    ⊎ ((m ≡ []) × (left ≡ batch) × (u ≡ t) × (o ≡ None) × (length batch < max_page))

-- an event came into a worker's batch, or was passed over without a number
abbrev pub Passes : EventValue → List EventValue → List EventValue → Tally → Tally → Type 0
Passes e b c t u = ((is_with_number e ≡ false) × (c ≡ b) × (u ≡ record t { refused = t.refused + 1 }))
    ⊎ ((is_with_number e ≡ true) × (c ≡ b ++ e ∷ []) × (u ≡ t))

-- a worker's feed on its way, after these events
pub record Going (passed : List EventValue) (m : List Call) (batch : List EventValue) (t : Tally)
    : Type 0 where
  pub takes : AreTakes m
  pub order : handled m ++ batch ≡ sequenced passed
  pub fresh : t.fresh ≡ fresh_of m
  pub repeated : t.repeated ≡ repeated_of m
  pub all : fresh_of m + repeated_of m ≡ length (handled m)
  pub refused : t.refused ≡ length (unsequenced passed)
  pub answered : AreAnswered m

-- how far a worker's refused call came
abbrev pub short_of : DeskFault → Short
short_of (OutOfMemory taken fresh) = record { taken = taken; fresh = fresh }

-- others added to the desk's arrivals, and then came these events of the worker
abbrev pub ComesBehindOthers : List EventValue → List EventValue → List EventValue → Type 0
ComesBehindOthers A L B = (others : List EventValue) × (B ≡ append_new key_cmp (A ++ others) L)
