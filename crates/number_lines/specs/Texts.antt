-- What is written of lines. Each line ends with LF.
use Rattle.std.specs.Prelude.{ℕ, List, [], ◌∷◌, ◌++◌, codes, Option, None, Some}
use Rattle.std.specs.Fmt.{decimal}
use Rattle.attributes.specs.Event.{EventValue}
use Rattle.event_json.specs.BatchText.{batch_text}
use Rattle.number_lines.specs.Words.{words_of_refusal}
use Rattle.number_lines.specs.declared.refusal.LineRefusal.{LineRefusal}
use Rattle.number_lines.specs.declared.refusal.Told.{Told}

-- the events of a line with their numbers, as a batch; nothing of one that is refused
abbrev pub line_text : Option LineRefusal → List EventValue → List ℕ
line_text None answer = batch_text answer ++ 10 ∷ []
line_text (Some why) answer = []

abbrev pub numbered_text : List Told → List (List EventValue) → List ℕ
numbered_text (told ∷ tells) (answer ∷ answers) =
    line_text told.fault answer ++ numbered_text tells answers
numbered_text _ _ = []

-- the text of a line to be numbered that is refused
abbrev pub refused_line_text : ℕ → LineRefusal → List ℕ
refused_line_text line why = codes "{\"line\":" ++ decimal line ++ codes ",\"fault\":\"" ++ words_of_refusal why
    ++ codes "\"}" ++ 10 ∷ []

abbrev pub refusal_text : ℕ → Option LineRefusal → List ℕ
refusal_text line None = []
refusal_text line (Some why) = refused_line_text line why

abbrev pub fault_text : List Told → List ℕ
fault_text [] = []
fault_text (told ∷ tells) = refusal_text told.line told.fault ++ fault_text tells
