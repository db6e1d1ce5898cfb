-- What a peer lacks of a set E of events, a list in key order, by the peer's summary: events whose
-- source and number it doesn't hold, and those of the blocks of which it has another digest. One of
-- version 1 has no digests: where two events of a source have one number, it can't tell them apart.
pub use Rattle.coverage.specs.Digests.{delta, is_lacking, lacking_of}
use Rattle.std.specs.Prelude.{◌≡◌, ◌≢◌, ◌+◌, ◌≤◌, ℕ, List, [], Bool, true, false, Some, drop, length, slice_get, take}
use Rattle.std.specs.BTreeSet.{BTreeSet, contains}
use Rattle.std.specs.Option.{option_map_or}
use Rattle.std.specs.Ordering.{nat_cmp}
use Rattle.attributes.specs.Event.{EventValue, source_of}
use Rattle.attributes.specs.Sequence.{number_of}
use Rattle.coverage.specs.Digests.{is_wanted}
use Rattle.coverage.specs.Summary.{Sources}
use Rattle.site.specs.declared.site.delta.DeltaPart.{DeltaPart}

-- whether the event has a number for which a peer's summary wants what the site's own tells of
abbrev pub is_wanting : Sources → Sources → EventValue → Bool
is_wanting peer own e = option_map_or (is_wanted peer own (source_of e)) (number_of e) false

-- the site's own summary tells of each event whether the peer lacks it, by the digests of E
abbrev pub Tells : List EventValue → Sources → Sources → Type 0
Tells E peer own = (e : EventValue) → is_lacking E peer e ≡ is_wanting peer own e

-- every place of a site's set E at which an event stands that the peer lacks is one of the places
abbrev pub AreAll : List EventValue → Sources → BTreeSet ℕ → Type 0
AreAll E peer places = (i : ℕ) (e : EventValue) → slice_get E i ≡ Some e
    → is_lacking E peer e ≡ true → contains nat_cmp places i ≡ true

-- what a part has: of the site's events E from a place on, those that the peer lacks, `limit` of
-- them at most, and the place to go on from
pub record IsPartOf (E : List EventValue) (peer : Sources) (place limit : ℕ)
    (part : List EventValue) (next : ℕ) : Type 0 where
  pub events : part ≡ take limit (lacking_of E peer (drop place E))
  pub rest : lacking_of E peer (drop next E) ≡ drop limit (lacking_of E peer (drop place E))
  pub within : next ≤ length E
  pub behind : place + length part ≤ next

-- a part of a delta, whose events are copies of the site's
abbrev pub IsDeltaPart : List EventValue → Sources → ℕ → ℕ → DeltaPart → Type 0
IsDeltaPart E peer place limit part = IsPartOf E peer place limit part.events part.next

-- of the site's events E from a place on, the peer lacks some of the next `limit`
abbrev pub LacksSomeFrom : List EventValue → Sources → ℕ → ℕ → Type 0
LacksSomeFrom E peer place limit = take limit (lacking_of E peer (drop place E)) ≢ []
