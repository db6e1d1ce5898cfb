-- The canonical text of a batch (CloudEvents JSON Event Format 1.0.2, section 4).
use Rattle.std.specs.Prelude.{ℕ, List, [], ◌∷◌, ◌++◌, map}
use Rattle.std.specs.List.{join_with_byte}
use Rattle.attributes.specs.Event.{EventValue, text}

-- the text of a JSON batch: the events' texts joined by commas, in brackets
abbrev pub batch_text : List EventValue → List ℕ
batch_text es = 91 ∷ (join_with_byte 44 (map text es) ++ 93 ∷ [])

-- the text of a JSON batch is one line
abbrev pub batch_line : List EventValue → List ℕ
batch_line events = batch_text events ++ 10 ∷ []

-- an event's JSON object, as one line
abbrev pub event_line : EventValue → List ℕ
event_line e = text e ++ 10 ∷ []
