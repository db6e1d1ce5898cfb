-- What a fan-out does for each relay and its route.
use Rattle.std.specs.Prelude.{◌≡◌, ◌⊎◌, ◌<◌, ◌≤◌, ◌+◌, ◌-◌, ℕ, suc, List, [], ◌∷◌, ◌++◌, length, take, drop, slice_get, Some}
use Rattle.std.specs.List.{AllByRecursion}
use Rattle.attributes.specs.Event.{EventValue}
use Rattle.site.specs.Gate.{LetsThrough}
use Rattle.relay.specs.Relay.{RelayMark, max_page}
use Rattle.relay.specs.Route.{Has, AreIn, AreFromEither}
use Rattle.relay.specs.declared.fault.RelayFault.{RelayFault}
use Rattle.relay.specs.declared.fault.RelayFault.TheVariants.{OutOfMemory, RouteFailed, Stranger, Store, NoThread, GateShut}
use Rattle.relay_fan.specs.declared.fan.End.{End}
use Rattle.relay_fan.specs.declared.fan.End.TheVariants.{Done, Failed}

-- the outbox's row with this number, for a route, of rows that have the numbers after the base
abbrev pub IsRow : ℕ → List EventValue → ℕ → EventValue → Type 0
IsRow base rows number e = (base < number) × (slice_get rows (number - suc base) ≡ Some e)

-- the rows with a number above `from`, up to `to`, are among the route's events
abbrev pub AreSent : ℕ → List EventValue → ℕ → ℕ → List EventValue → Type 0
AreSent base rows from to events = (number : ℕ) (e : EventValue)
    → from < number → number ≤ to → IsRow base rows number e → Has events e

-- no row of the outbox has a number above the relay's mark
abbrev pub IsAtEnd : ℕ → List EventValue → ℕ → Type 0
IsAtEnd base rows mark = (number : ℕ) (e : EventValue) → IsRow base rows number e → number ≤ mark

-- the outbox's rows for a route with a number above `from`, up to `to`, in their order
abbrev pub rows_between : ℕ → List EventValue → ℕ → ℕ → List EventValue
rows_between base rows from to = drop (from - base) (take (to - base) rows)

-- a relay's pages one after another
abbrev pub joined : List (List EventValue) → List EventValue
joined [] = []
joined (page ∷ pages) = page ++ joined pages

-- what is sent to a route at once: at least one row, at most a page
abbrev pub IsPage : List EventValue → Type 0
IsPage page = (0 < length page) × (length page ≤ max_page)

-- the pages were handed to the route's send, each once, in their order, and each was accepted
abbrev pub TakesAll : {R : Type 0} → (R → List EventValue → R → Type 0) → R
    → List (List EventValue) → R → Type 0
TakesAll takes old [] new = new ≡ old
TakesAll {R} takes old (page ∷ pages) new =
    (mid : R) × (takes old page mid × TakesAll takes mid pages new)

-- what a fault did to a route: one send that failed where it is said so, and else nothing; no
-- outcome was of strangers
abbrev pub HasCauseOfFault : {R : Type 0} → (R → R → Type 0) → R → R → RelayFault → Type 0
HasCauseOfFault has_failed before route OutOfMemory = route ≡ before
HasCauseOfFault has_failed before route RouteFailed = has_failed before route
HasCauseOfFault has_failed before route Stranger = ⊥
HasCauseOfFault has_failed before route Store = route ≡ before
HasCauseOfFault has_failed before route NoThread = route ≡ before
HasCauseOfFault has_failed before route GateShut = route ≡ before

-- what an end of a lane did to its route
abbrev pub EndsAtRoute : {R : Type 0} → (R → R → Type 0) → R → R → End → Type 0
EndsAtRoute has_failed before route Done = route ≡ before
EndsAtRoute has_failed before route (Failed f) = HasCauseOfFault has_failed before route f

-- the calls of a worker whose lane ended so: one for each accepted page, and the one that failed
abbrev pub calls_until : End → ℕ → ℕ
calls_until Done pages = pages
calls_until (Failed OutOfMemory) pages = pages
calls_until (Failed RouteFailed) pages = pages + 1
calls_until (Failed Stranger) pages = pages
calls_until (Failed Store) pages = pages
calls_until (Failed NoThread) pages = pages
calls_until (Failed GateShut) pages = pages

-- the gate let a worker make just its calls, counted from 1, and was told of each; it was shut
-- before the next one where the worker ended at a shut gate
pub record IsGatedEnd (lets shuts heard : ℕ → ℕ → Type 0) (worker pages : ℕ) (end : End) : Type 0 where
  pub through : LetsThrough lets heard worker 0 (calls_until end pages)
  pub shut : end ≡ Failed GateShut → shuts worker (pages + 1)

-- a route was handed these pages and then nothing more, but for one that failed where the end is
-- that it failed, and each of them through the gate
pub record Hands {R : Type 0} (takes : R → List EventValue → R → Type 0)
    (has_failed : R → R → Type 0) (lets shuts heard : ℕ → ℕ → Type 0) (worker : ℕ)
    (route back : R) (end : End) (pages : List (List EventValue)) : Type 0 where
  pub before : R
  pub taken : TakesAll takes route pages before
  pub closed : EndsAtRoute has_failed before back end
  pub sized : AllByRecursion IsPage pages
  pub gated : IsGatedEnd lets shuts heard worker (length pages) end

-- a relay and its route at this place, before and after, whatever the disk did: the mark doesn't
-- fall, nothing that was accepted is lost, and the route was handed pages, each once. The worker's
-- number is the place
pub record LeavesLane {R : Type 0} (accepted : R → List EventValue)
    (takes : R → List EventValue → R → Type 0) (has_failed : R → R → Type 0)
    (lets shuts heard : ℕ → ℕ → Type 0) (place : ℕ) (old new : RelayMark) (route back : R) (end : End)
    : Type 0 where
  pub site : new.site ≡ old.site
  pub forward : old.mark ≤ new.mark
  pub kept : AreIn (accepted route) (accepted back)
  pub handed : (pages : List (List EventValue))
      × Hands takes has_failed lets shuts heard place route back end pages

-- a relay and its route, before and after, over the rows of a service: the rows between the marks
-- are accepted, what is new is of the rows, the pages that the route was handed are just the rows
-- between the marks, a mark doesn't rise past the last row, and the end is done only where no row
-- is left
pub record Delivers {R : Type 0} (accepted : R → List EventValue)
    (takes : R → List EventValue → R → Type 0) (has_failed : R → R → Type 0)
    (lets shuts heard : ℕ → ℕ → Type 0) (base : ℕ) (rows : List EventValue) (place : ℕ)
    (old new : RelayMark) (route back : R) (end : End) : Type 0 where
  pub sent : AreSent base rows old.mark new.mark (accepted back)
  pub new_rows : AreFromEither (accepted back) (accepted route) rows
  pub handed : (pages : List (List EventValue))
      × (Hands takes has_failed lets shuts heard place route back end pages
      × (joined pages ≡ rows_between base rows old.mark new.mark))
  pub reached : (new.mark ≡ old.mark) ⊎ (new.mark ≤ base + length rows)
  pub done : end ≡ Done → IsAtEnd base rows new.mark

-- this holds at each place of a fan-out: of a relay before and after, its route, and its end
abbrev pub AtEach : {R : Type 0} → List RelayMark → List RelayMark → List R → List R → List End
    → (ℕ → RelayMark → RelayMark → R → R → End → Type 0) → Type 0
AtEach {R} olds news routes backs ends Holds =
    (i : ℕ) (old new : RelayMark) (route back : R) (end : End)
    → slice_get olds i ≡ Some old → slice_get news i ≡ Some new
    → slice_get routes i ≡ Some route → slice_get backs i ≡ Some back
    → slice_get ends i ≡ Some end → Holds i old new route back end
