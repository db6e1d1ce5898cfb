-- The lines by which lines are acknowledged. Each ends with LF.
use Rattle.std.specs.Prelude.{◌-◌, ℕ, List, [], ◌∷◌, ◌++◌, length, codes, Option, None, Some}
use Rattle.std.specs.Fmt.{decimal}
use Rattle.attributes.specs.Event.{EventValue}
use Rattle.event_files.specs.declared.refusal.ReportFault.{ReportFault}
use Rattle.line_intake.specs.Words.{words_of}
use Rattle.line_intake.specs.declared.answer.Told.{Told}

-- the acknowledgement of a line whose events are kept by now: so many were new, so many were there
abbrev pub kept_line : ℕ → ℕ → ℕ → List ℕ
kept_line line fresh repeated =
    codes "{\"line\":" ++ decimal line ++ codes ",\"new\":" ++ decimal fresh
    ++ codes ",\"repeated\":" ++ decimal repeated ++ codes "}" ++ 10 ∷ []

-- the acknowledgement of a line at fault
abbrev pub fault_line : ℕ → ReportFault → List ℕ
fault_line line why = codes "{\"line\":" ++ decimal line ++ codes ",\"fault\":\"" ++ words_of why
    ++ codes "\"}" ++ 10 ∷ []

-- the acknowledgement of a line of so many events, of which so many were new
abbrev pub answer_of : ℕ → Option ReportFault → ℕ → ℕ → List ℕ
answer_of line None events fresh = kept_line line fresh (events - fresh)
answer_of line (Some why) events fresh = fault_line line why

abbrev pub answer_line : Told → ℕ → ℕ → List ℕ
answer_line told events fresh = answer_of told.line told.fault events fresh

-- the acknowledgements of lines with their events, one behind the other
abbrev pub answers_text : List Told → List (List EventValue) → List ℕ → List ℕ
answers_text (told ∷ tells) (L ∷ lists) (fresh ∷ each) =
    answer_line told (length L) fresh ++ answers_text tells lists each
answers_text _ _ _ = []
