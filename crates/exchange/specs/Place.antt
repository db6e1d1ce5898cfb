-- Sites that exchange events, as sets.
use Rattle.std.specs.Prelude.{ℕ, List, [], slice_index_or, slice_set, replicate}
use Rattle.attributes.specs.Event.{EventValue}
use Rattle.inbox.specs.Sets.{union}

-- an exchanging site: the set of events that it took, and the set of those that outlast a restart
pub record Place : Type 0 where
  pub taken : List EventValue
  pub kept : List EventValue

-- a site that has nothing yet of what sites exchange
abbrev pub nothing : Place
nothing = record { taken = []; kept = [] }

-- the place of site i in a world of sites that exchange
abbrev pub place_at : List Place → ℕ → Place
place_at w i = slice_index_or w i nothing

-- the world of a schedule at its start: so many sites that have nothing
abbrev pub start : ℕ → List Place
start n = replicate n nothing

-- site i takes these events too, in an exchange
abbrev pub gains : List Place → ℕ → List EventValue → List Place
gains w i L = slice_set w i (record (place_at w i) { taken = union (place_at w i).taken L })
