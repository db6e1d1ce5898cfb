-- Rows of tables.
use Rattle.std.specs.Prelude.{ℕ, List, Option, map}
use Rattle.attributes.specs.Event.{EventValue}
use Rattle.views.specs.Latest.{latest_of, entities_of}

-- the rows of `latest`: the entities of events, each once and in order, each with its latest event
abbrev pub latest_rows : List EventValue → List ((List ℕ × List ℕ) × Option EventValue)
latest_rows events = map (λ entity. (entity, latest_of events entity)) (entities_of events)
