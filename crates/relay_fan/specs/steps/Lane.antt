-- Relays and their routes on their way through the rows.
use Rattle.std.specs.Prelude.{◌≡◌, ◌⊎◌, ◌≤◌, ◌+◌, ◌-◌, ⊤, ℕ, suc, List, [], ◌∷◌, length, ◌++◌, drop, Option, Some, None, MatchOption, IsSome, IsTrue}
use Rattle.attributes.specs.Event.{EventValue}
use Rattle.site.specs.Gate.{LetsThrough}
use Rattle.sqlite.specs.Effect.{Database}
use Rattle.sqlite.specs.State.{State, HasCleanDisk}
use Rattle.outbox.specs.Order.{Accepted}
use Rattle.outbox.specs.Row.{rows_of}
use Rattle.outbox.specs.Service.{IsService}
use Rattle.outbox.specs.Layout.{ServiceLayout, schema_in_layout}
use Rattle.relay.specs.Route.{AreIn, AreFromEither}
use Rattle.std.specs.List.{AllByRecursion}
use Rattle.relay_fan.specs.Fan.{AreSent, HasCauseOfFault, IsAtEnd, IsPage, TakesAll, calls_until, joined, rows_between}
use Rattle.relay.specs.declared.fault.RelayFault.{RelayFault}
use Rattle.relay.specs.declared.fault.RelayFault.TheVariants.{OutOfMemory, RouteFailed, Stranger, Store, NoThread, GateShut}
use Rattle.relay_fan.specs.declared.fan.End.{End}
use Rattle.relay_fan.specs.declared.fan.End.TheVariants.{Done, Failed}
use Rattle.relay_fan.specs.declared.fan.lane.Lane.{Lane}

-- what the end of a lane did to its route
abbrev pub IsClosed : {R : Type 0} → (R → R → Type 0) → R → Lane R → Type 0
IsClosed has_failed before lane =
    MatchOption lane.fault (lane.route ≡ before) (HasCauseOfFault has_failed before lane.route)

-- a lane's calls to its route of late: one for each page that was accepted, and the one that failed
abbrev pub calls_to : Option RelayFault → ℕ → ℕ
calls_to None pages = pages
calls_to (Some f) pages = calls_until (Failed f) pages

-- the route of a lane that went on was handed these pages and then nothing more, but for one that
-- failed where the lane stopped for it. Each was a call that the gate let through, after the calls
-- before
pub record Hands {R : Type 0} (takes : R → List EventValue → R → Type 0)
    (has_failed : R → R → Type 0) (lets shuts heard : ℕ → ℕ → Type 0) (old new : Lane R)
    (pages : List (List EventValue)) : Type 0 where
  pub before : R
  pub taken : TakesAll takes old.route pages before
  pub closed : IsClosed has_failed before new
  pub sized : AllByRecursion IsPage pages
  pub counted : new.fault ≡ None → new.calls ≡ old.calls + length pages
  pub through : LetsThrough lets heard old.place old.calls (calls_to new.fault (length pages))
  pub shut : new.fault ≡ Some GateShut → shuts old.place (old.calls + length pages + 1)

-- a lane to a route that went on was handed pages of which this holds
abbrev pub HandsOver : {R : Type 0} → (R → List EventValue → R → Type 0) → (R → R → Type 0)
    → (ℕ → ℕ → Type 0) → (ℕ → ℕ → Type 0) → (ℕ → ℕ → Type 0)
    → (List (List EventValue) → Type 0) → Lane R → Lane R → Type 0
HandsOver takes has_failed lets shuts heard Fits old new = old.fault ≡ None
    → (pages : List (List EventValue))
    × (Hands takes has_failed lets shuts heard old new pages × Fits pages)

-- any pages for a route, where nothing is said of the rows
abbrev pub AreAny : List (List EventValue) → Type 0
AreAny pages = ⊤

-- the pages sent to a route are the rows between the relay's marks
abbrev pub AreBetween : ℕ → List EventValue → ℕ → ℕ → List (List EventValue) → Type 0
AreBetween base rows from to pages = joined pages ≡ rows_between base rows from to

-- a lane to a route before and after, whatever its rows are
pub record MovesLane {R : Type 0} (accepted : R → List EventValue)
    (takes : R → List EventValue → R → Type 0) (has_failed : R → R → Type 0)
    (lets shuts heard : ℕ → ℕ → Type 0) (old new : Lane R) : Type 0 where
  pub place : new.place ≡ old.place
  pub site : new.relay.site ≡ old.relay.site
  pub forward : old.relay.mark ≤ new.relay.mark
  pub kept : AreIn (accepted old.route) (accepted new.route)
  pub handed : HandsOver takes has_failed lets shuts heard AreAny old new
  pub idle : IsSome old.fault → new ≡ old

-- a route's lane before and after rows, a window or all, whose numbers are those after `start`
pub record Carries {R : Type 0} (accepted : R → List EventValue)
    (takes : R → List EventValue → R → Type 0) (has_failed : R → R → Type 0)
    (lets shuts heard : ℕ → ℕ → Type 0) (start : ℕ) (rows : List EventValue) (old new : Lane R)
    : Type 0 where
  pub moves : MovesLane accepted takes has_failed lets shuts heard old new
  pub within : (new.relay.mark ≡ old.relay.mark) ⊎ (new.relay.mark ≤ start + length rows)
  pub sent : AreSent start rows old.relay.mark new.relay.mark (accepted new.route)
  pub new_rows : AreFromEither (accepted new.route) (accepted old.route) rows
  pub handed : HandsOver takes has_failed lets shuts heard
      (AreBetween start rows old.relay.mark new.relay.mark) old new

-- why a call of a worker failed, or wasn't made: the route failed in it, or the gate was
-- shut before
abbrev pub FailsAt : {R : Type 0} → (R → R → Type 0) → (ℕ → ℕ → Type 0) → (ℕ → ℕ → Type 0)
    → (ℕ → ℕ → Type 0) → ℕ → ℕ → R → R → RelayFault → Type 0
FailsAt has_failed lets shuts heard worker call old new OutOfMemory = ⊥
FailsAt has_failed lets shuts heard worker call old new RouteFailed =
    has_failed old new × (lets worker call × heard worker call)
FailsAt has_failed lets shuts heard worker call old new Stranger = ⊥
FailsAt has_failed lets shuts heard worker call old new Store = ⊥
FailsAt has_failed lets shuts heard worker call old new NoThread = ⊥
FailsAt has_failed lets shuts heard worker call old new GateShut = (new ≡ old) × shuts worker call

-- a lane never came to a call of its route: memory, the rows or a thread weren't to be had
abbrev pub IsQuiet : RelayFault → Type 0
IsQuiet f = (f ≡ OutOfMemory) ⊎ ((f ≡ Store) ⊎ (f ≡ NoThread))

-- how many steps a lane takes at most over so many numbers: one more to stop, none once stopped
abbrev pub steps_left : Option RelayFault → ℕ → ℕ
steps_left None numbers = suc numbers
steps_left (Some f) numbers = 0

-- how many steps a route's lane takes at most to the end of its window
abbrev pub left : {R : Type 0} → ℕ → List EventValue → Lane R → ℕ
left start rows lane = steps_left lane.fault (start + length rows - lane.relay.mark)

-- the two lists of a fan-out have one length, and this holds at each place
abbrev pub AllAtPlaces : {A : Type 0} → {B : Type 0} → (A → B → Type 0) → List A → List B → Type 0
AllAtPlaces Holds [] [] = ⊤
AllAtPlaces Holds [] (y ∷ ys) = ⊥
AllAtPlaces Holds (x ∷ xs) [] = ⊥
AllAtPlaces Holds (x ∷ xs) (y ∷ ys) = Holds x y × AllAtPlaces Holds xs ys

-- a relay's window: some of the next rows after `start`, and none only where there are none
pub record IsWindow (base : ℕ) (all : List EventValue) (start : ℕ) (rows : List EventValue)
    : Type 0 where
  pub rest : List EventValue
  pub whole : drop (start - base) all ≡ rows ++ rest
  pub last : rows ≡ [] → rest ≡ []

-- this relay's window is one of the service's rows
abbrev pub ShowsWindow : List ℕ → ℕ → ℕ → Database → List EventValue → Type 0
ShowsWindow source base start db rows = (commands : List Accepted)
    → IsService db source base commands → IsWindow base (rows_of source base commands) start rows

-- the relay's database is what it was, if a service's, while the disk is honest and it is open
abbrev pub IsStill : Database → State → Type 0
IsStill db s = HasCleanDisk s → IsTrue s.is_open → (layout : ServiceLayout)
    → db.schema ≡ schema_in_layout layout → s.now ≡ db

-- for a relay: this holds of the rows of the service that a database stands for, while the disk is
-- honest up to this state
abbrev pub Honestly : List ℕ → ℕ → Database → State → (List EventValue → Type 0) → Type 0
Honestly source base db s Holds = HasCleanDisk s → (commands : List Accepted)
    → IsService db source base commands → Holds (rows_of source base commands)

-- a lane to a route before and after, over the rows of the service
pub record Comes {R : Type 0} (accepted : R → List EventValue)
    (takes : R → List EventValue → R → Type 0) (has_failed : R → R → Type 0)
    (lets shuts heard : ℕ → ℕ → Type 0) (source : List ℕ) (base : ℕ) (db : Database)
    (s : State) (old new : Lane R) : Type 0 where
  pub moves : MovesLane accepted takes has_failed lets shuts heard old new
  pub carries : Honestly source base db s (λ rows.
      Carries accepted takes has_failed lets shuts heard base rows old new)

-- a route's lane went on to its end: if it didn't stop, no row is left
pub record Rests {R : Type 0} (accepted : R → List EventValue)
    (takes : R → List EventValue → R → Type 0) (has_failed : R → R → Type 0)
    (lets shuts heard : ℕ → ℕ → Type 0) (source : List ℕ) (base : ℕ) (db : Database)
    (s : State) (old new : Lane R) : Type 0 where
  pub comes : Comes accepted takes has_failed lets shuts heard source base db s old new
  pub done : new.fault ≡ None → Honestly source base db s (λ rows. IsAtEnd base rows new.relay.mark)

-- how a lane to a route ended
abbrev pub end_after : Option RelayFault → End
end_after None = Done
end_after (Some f) = Failed f

abbrev pub end_of_lane : {R : Type 0} → Lane R → End
end_of_lane lane = end_after lane.fault

-- a fan-out's lanes stand in their order, the first at this place
abbrev pub ArePlaced : {R : Type 0} → ℕ → List (Lane R) → Type 0
ArePlaced place [] = ⊤
ArePlaced place (x ∷ xs) = (x.place ≡ place) × ArePlaced (suc place) xs
