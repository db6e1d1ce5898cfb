-- A running site that is given events.
use Rattle.std.specs.Prelude.{◌≡◌, ℕ, List, [], Result, Ok, Err, Some, slice_get, slice_index_or, slice_set, take}
use Rattle.attributes.specs.Event.{EventValue}
use Rattle.inbox.specs.KeyOrder.{key_cmp}
use Rattle.inbox.specs.Ordered.{append_new}
use Rattle.inbox.specs.Sets.{set_of, union}
use Rattle.exchange.specs.Place.{Place}
use Rattle.exchange.specs.Schedule.{places_after, after_part}
use Rattle.exchange.specs.declared.step.Step.{Step}
use Rattle.exchange.specs.declared.world.Hosted.{Hosted}

-- the arrivals of site i among those that exchange
abbrev pub site_at : List Hosted → ℕ → List EventValue
site_at hosts i = (slice_index_or hosts i (record { site = []; kept = 0 })).site

-- in an exchange site i has taken the events L, and nothing else is changed
pub record GivesTo (old new : List Hosted) (i : ℕ) (L : List EventValue) : Type 0 where
  pub host : Hosted
  pub there : slice_get old i ≡ Some host
  pub site : List EventValue
  pub changed : new ≡ slice_set old i (record { site = site; kept = host.kept })
  pub arrivals : site ≡ append_new key_cmp host.site L
  pub set : set_of site ≡ union (set_of host.site) L

-- in an exchange the site has taken the events; refused, the first so many alone
abbrev pub Gives : List Hosted → List Hosted → ℕ → List EventValue → Result (Unit {0}) ℕ → Type 0
Gives old new i L (Ok _) = GivesTo old new i L
Gives old new i L (Err n) = GivesTo old new i (take n L)

-- the world after a step of the schedule was made; refused, after the first so many of its events
abbrev pub after_made : Result (Unit {0}) ℕ → Step → List Place → List Place
after_made (Ok _) step w = places_after step w
after_made (Err n) step w = after_part n step w
