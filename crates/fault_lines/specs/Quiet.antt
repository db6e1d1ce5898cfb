-- Files of which nothing is said.
use Rattle.std.specs.Prelude.{◌≡◌, ℕ, List, true, is_some}
use Rattle.std.specs.List.{list_all}
use Rattle.attributes.specs.Event.{EventValue}
use Rattle.attributes.specs.Sequence.{number_of}
use Rattle.event_json.specs.Reading.{Reads}

-- each event of a file has a number, so no line is said of it
abbrev pub HaveAllNumbers : List EventValue → Type 0
HaveAllNumbers events = list_all (λ e. is_some (number_of e)) events ≡ true

-- a file of which no line is said: its bytes spell events that all have numbers
abbrev pub IsGood : List ℕ → Type 0
IsGood b = (events : List EventValue) × Reads b events × HaveAllNumbers events
