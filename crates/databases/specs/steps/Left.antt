-- Where pages of a site's events stand.
use Rattle.std.specs.Prelude.{◌≤◌, ℕ, List, Option, None, Some, drop, length}
use Rattle.attributes.specs.Event.{EventValue}
use Rattle.inbox.specs.Sets.{set_of}
use Rattle.site.specs.Delta.{Tells, lacking_of}
use Rattle.databases.specs.declared.pages.Compared.{Compared}
use Rattle.databases.specs.declared.pages.PagedEvents.{PagedEvents}
use Rattle.databases.specs.declared.pages.PagedEvents.TheVariants.{Arrived, Kept}

-- the events of a database's set that are left from a place on: all, or those that a peer lacks
abbrev pub left_of : List EventValue → Option Compared → ℕ → List EventValue
left_of E None place = drop place E
left_of E (Some both) place = lacking_of E both.peer (drop place E)

-- the own summary that is compared with a peer's is one of the database's set
abbrev pub AreCompared : List EventValue → Option Compared → Type 0
AreCompared E None = Unit {0}
AreCompared E (Some both) = Tells E both.peer both.own

-- the events of a database's pages that are left from a place on
abbrev pub events_left : PagedEvents → ℕ → List EventValue
events_left (Arrived events) place = drop place events
events_left (Kept site compared) place = left_of (set_of site) compared place

-- a place of a database's key order is one of the set, and the own summary is one of it
abbrev pub ArePaged : PagedEvents → ℕ → Type 0
ArePaged (Arrived events) place = Unit {0}
ArePaged (Kept site compared) place = (place ≤ length (set_of site))
    × AreCompared (set_of site) compared
