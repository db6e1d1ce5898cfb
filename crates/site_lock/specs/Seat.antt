-- A pass as the turns of `turn_lock` know it.
use Rattle.std.specs.Prelude.{◌≡◌, ℕ, List, [], Option, Some, None}
use Rattle.atomic_table.specs.Seated.{TableId}
use Rattle.atomic_table.specs.Table.{Me}
use Rattle.attributes.specs.Event.{EventValue}
use Rattle.site.specs.Arrival.{AreDistinct}
use Rattle.site.specs.Machine.{HasRightReply, arrivals_after}
use Rattle.site.specs.declared.call.Call.{Call}
use Rattle.turn_lock.specs.declared.machine.View.{View}
use Rattle.turn_lock.specs.Turn.{HasTurn, IsIdle}
use Rattle.site_lock.specs.declared.held.Held.{Held}
use Rattle.site_lock.specs.Pass.{ShownPass}

-- the arrivals of the shared site in its slot
abbrev pub arrivals_of : Held → List EventValue
arrivals_of held = held.site

abbrev pub SiteView : Type 0
SiteView = View (List EventValue) Call

abbrev pub Seat : Type 0
Seat = Me (Option Held) SiteView

abbrev pub number_of_pass : Option (List ℕ) → List ℕ
number_of_pass None = []
number_of_pass (Some n) = n

-- what a pass of the shared site shows of its view
abbrev pub shown : TableId → SiteView → ShownPass
shown table v = record {
  table = table;
  number = number_of_pass v.number;
  splits = v.splits;
  opening = v.opening;
  seen = v.seen;
  mine = v.mine;
}

-- between calls of the shared site: it waits for nothing, and opened with arrivals once each
pub record IsAtRest (m : Seat) : Type 0 where
  pub idle : IsIdle arrivals_of arrivals_after HasRightReply m
  pub once : AreDistinct m.0.opening

-- the turn with the shared site may end with the call c and these arrivals
abbrev pub MayEnd : Seat → List EventValue → Call → Type 0
MayEnd m B c = (A : List EventValue) × HasTurn arrivals_of arrivals_after HasRightReply m A
    × (B ≡ arrivals_after A c) × HasRightReply A c
