-- What the calls of a relay that read a service do. `was` is the service before the call and `is`
-- the one behind it.
use Rattle.std.specs.Prelude.{◌≡◌, ◌⊎◌, ◌+◌, ℕ, List, Option, IfSome, IsTrue, Result, Err, IfErr, IfOk, OnErr, OnOk}
use Rattle.sqlite.specs.Held.{Held}
use Rattle.sqlite.specs.State.{State, HasCleanDisk}
use Rattle.attributes.specs.Event.{EventValue}
use Rattle.outbox.specs.Call.{IsServiceReading, IsSettled, LeavesAsBefore}
use Rattle.outbox.specs.Shown.{Shown}
use Rattle.relay.specs.Relay.{ForNextRows, HandsOn, HasRows, IsLast, RelayMark, Sends}
use Rattle.relay.specs.Route.{AreIn, AreFromEither}
use Rattle.relay.specs.declared.fault.RelayFault.{RelayFault}
use Rattle.relay.specs.declared.fault.RelayFault.TheVariants.{OutOfMemory, RouteFailed, Store}
use Rattle.relay.specs.declared.relay.Job.{Job}

module _ {S : Type 0} (state : Held S → State) where
  -- a service was only read
  pub record ReadsService {T : Type 0} (was is : Shown S) (result : Result T RelayFault)
      : Type 0 where
    pub kept : (is.source ≡ was.source) × (is.base ≡ was.base) × (is.last ≡ was.last)
    -- no fault of the disk is forgotten, and while it is honest the database is as it was
    pub same : IsServiceReading (state was.conn) (state is.conn)
    -- answered, the database is open, and a crash leaves what it shows
    pub stays_open : HasCleanDisk (state is.conn) → OnOk result (IsTrue (state is.conn).is_open)
    pub settled : HasCleanDisk (state is.conn) → OnOk result (IsSettled (state is.conn))
    -- refused too, a crash leaves what it could leave before
    pub crash : LeavesAsBefore (state was.conn) (state is.conn)

  -- while the disk is honest, this holds of the next rows after the mark
  abbrev pub OfNextRows : Shown S → Shown S → ℕ → (List EventValue → Type 0) → Type 0
  OfNextRows was is mark Holds = HasCleanDisk (state is.conn)
      → ForNextRows was.source was.base mark (state was.conn).now Holds

  -- a relay came from `old` to `new` by a step, and its route to be `back`; the answer is how many
  -- rows were sent
  pub record Steps {R : Type 0} (accepted : R → List EventValue)
      (takes : R → List EventValue → R → Type 0) (has_failed : R → R → Type 0) (was is : Shown S)
      (old new : RelayMark) (route back : R) (result : Result ℕ RelayFault) : Type 0 where
    pub site : new.site ≡ old.site
    -- answered, the next rows are accepted, and the mark is the number of the last; the route was
    -- handed them once
    pub sent : IfOk result (λ n.
        OfNextRows was is old.mark (Sends (accepted back) old.mark n new.mark))
    pub took : OnOk result (OfNextRows was is old.mark (HandsOn takes route back))
    -- refused too, nothing that was accepted is lost, and what is new is of the next rows
    pub kept : AreIn (accepted route) (accepted back)
    pub new_rows : OfNextRows was is old.mark (AreFromEither (accepted back) (accepted route))
    -- refused, the mark stays, and `RouteFailed` comes only of the route
    pub refused : OnErr result (new.mark ≡ old.mark)
    pub failed : result ≡ Err RouteFailed → has_failed route back
    pub fault : IfErr result (λ f. (f ≡ RouteFailed) ⊎ ((f ≡ OutOfMemory) ⊎ (f ≡ Store)))

  -- a relay made a job, or none
  pub record MakesJob (was is : Shown S) (relay : RelayMark) (result : Result (Option Job) RelayFault)
      : Type 0 where
    -- it is of this site, and begins behind the mark
    pub site : IfOk result (λ o. IfSome o (λ j.
        (j.site ≡ relay.site) × (j.first ≡ relay.mark + 1)))
    pub last : IfOk result (λ o. IfSome o (λ j. IsLast relay.mark j.rows j.last))
    -- it has the next rows, and there is none exactly where there are no rows
    pub rows : IfOk result (λ o. OfNextRows was is relay.mark (HasRows o))
    pub fault : IfErr result (λ f. (f ≡ OutOfMemory) ⊎ (f ≡ Store))
