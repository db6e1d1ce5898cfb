-- The events of files, once a site has them. A site is seen as its arrivals.
use Rattle.std.specs.Prelude.{◌≡◌, ℕ, List, true}
use Rattle.attributes.specs.Event.{EventValue}
use Rattle.inbox.specs.Sets.{set_of, union}
use Rattle.event_files.specs.Files.{SpellsBatch}

-- the site's set is the one that was, with the events of a file's list
abbrev pub GainsSet : List EventValue → List EventValue → List EventValue → Type 0
GainsSet L old new = set_of new ≡ union (set_of old) L

-- the site's set got the events that a file's bytes spell, in whatever order
pub record TakesFile (b : List ℕ) (old new : List EventValue) : Type 0 where
  pub events : List EventValue
  pub spells : SpellsBatch b true events
  pub gains : GainsSet events old new
