-- The lines of answers: JSON without white space (RFC 8259), as serde_json writes it. Which members
-- there are is this project's own.
use Rattle.std.specs.Prelude.{◌≡◌, ℕ, ℤ, List, [], ◌∷◌, ◌++◌, codes, flat_map, map}
use Rattle.std.specs.List.{join_with_byte}
use Rattle.serde_json.specs.Data.{unsigned, Data, number, string, array, no_items, item}
use Rattle.serde_json.specs.Written.{compact_text}
use Rattle.attributes.specs.Event.{EventValue, text}
use Rattle.coverage.specs.Summary.{Entries, Entry, Sources}
use Rattle.coverage.specs.SummaryText.{intervals_items, summary_text}
use Rattle.inbox.specs.declared.conflict.Conflict.{Conflict}
use Rattle.views.specs.Day.{IsDayText}

-- a line of an answer to a question ends with LF
abbrev pub line : List ℕ → List ℕ
line text = text ++ 10 ∷ []

-- the answer to `cover`: the text of the summary, in a line
abbrev pub cover_line : Sources → List ℕ
cover_line summary = line (summary_text summary)

-- the answer to `shown` or `latest`: the canonical texts of events, one a line
abbrev pub event_lines : List EventValue → List ℕ
event_lines events = flat_map (λ e. line (text e)) events

-- a text as a JSON string in the line of an answer
abbrev pub string_text : List ℕ → List ℕ
string_text words = compact_text (string words)

-- of `conflicts`: {"events":[T1,T2,..],"id":ID,"source":SOURCE}, the canonical texts as they are
abbrev pub conflict_line : Conflict → List ℕ
conflict_line c =
    line (codes "{\"events\":[" ++ (join_with_byte 44 (map text c.events)
    ++ (codes "],\"id\":" ++ (string_text c.id
    ++ (codes ",\"source\":" ++ (string_text c.source ++ codes "}"))))))

-- the answer to `conflicts`: a line for each conflict
abbrev pub conflict_lines : List Conflict → List ℕ
conflict_lines conflicts = flat_map conflict_line conflicts

-- ["TYPE",N], the value in a line of `kinds`
abbrev pub kind_data : List ℕ → ℕ → Data
kind_data kind count = array (item (string kind) (item (number (unsigned count)) no_items))

-- the line of a type with its count in the answer to `kinds`
abbrev pub kind_line : List ℕ × ℕ → List ℕ
kind_line row = line (compact_text (kind_data row.0 row.1))

-- the answer to `kinds`: a line for each type
abbrev pub kind_lines : List (List ℕ × ℕ) → List ℕ
kind_lines rows = flat_map kind_line rows

-- ["TYPE","YYYY-MM-DD",N], the value in a line of `days`
abbrev pub day_data : List ℕ → List ℕ → ℕ → Data
day_data kind day count =
    array (item (string kind) (item (string day) (item (number (unsigned count)) no_items)))

-- the line of a type and a day with their count in the answer to `days`
abbrev pub IsDayLine : (List ℕ × ℤ) × ℕ → List ℕ → Type 0
IsDayLine row l =
    (day : List ℕ) × IsDayText row.0.1 day × (l ≡ line (compact_text (day_data row.0.0 day row.1)))

-- the answer to `days`: a line for each type and day
abbrev pub AreDayLines : List ((List ℕ × ℤ) × ℕ) → List ℕ → Type 0
AreDayLines [] l = l ≡ []
AreDayLines (row ∷ rows) l =
    (first : List ℕ) × (rest : List ℕ) × IsDayLine row first × AreDayLines rows rest
    × (l ≡ first ++ rest)

-- ["SOURCE",[[a,b],..]], the value in a line of `gaps`
abbrev pub gap_data : Entry → Data
gap_data row = array (item (string row.0) (item (array (intervals_items row.1)) no_items))

-- the line of a source with its gaps in the answer to `gaps`
abbrev pub gap_line : Entry → List ℕ
gap_line row = line (compact_text (gap_data row))

-- the answer to `gaps`: a line for each source
abbrev pub gap_lines : Entries → List ℕ
gap_lines rows = flat_map gap_line rows
