-- What routes have accepted.
use Rattle.std.specs.Prelude.{◌≡◌, ◌⊎◌, ◌<◌, ℕ, List, [], ◌∷◌}
use Rattle.attributes.specs.Event.{EventValue}

-- an event is one of these, as of those that a route accepted
abbrev pub Has : List EventValue → EventValue → Type 0
Has [] e = ⊥
Has (f ∷ events) e = (e ≡ f) ⊎ Has events e

-- each of these events is one of those, as of those that a route accepted
abbrev pub AreIn : List EventValue → List EventValue → Type 0
AreIn events all = (e : EventValue) → Has events e → Has all e

-- each of a route's events is one of those, or of these others
abbrev pub AreFromEither : List EventValue → List EventValue → List EventValue → Type 0
AreFromEither events all others = (e : EventValue) → Has events e → Has all e ⊎ Has others e

-- what a `MemoryRoute` is: its accepted events in the order of arrival, and a count of failures
pub record KeptRoute : Type 0 where
  pub events : List EventValue
  pub failures : ℕ

-- a route's count of failures is higher, or at the end of its range, 2^64 - 1, where it stays
abbrev pub CountRises : ℕ → ℕ → Type 0
CountRises old new = (old < new) ⊎ ((old ≡ 18446744073709551615) × (new ≡ 18446744073709551615))
