-- What is judged of files: each as a whole, or each of their lines as a file of its own.
use Rattle.std.specs.Prelude.{◌≡◌, ◌==◌, ◌||◌, ◌⊎◌, ℕ, suc, Bool, true, false, List, [], ◌∷◌, ◌++◌, Some, map, slice_get, if◌then◌else◌}
use Rattle.std.specs.List.{list_all, slice_split}
use Rattle.event_files.specs.Files.{IsAtFault, IsRefusal}
use Rattle.event_files.specs.Shelves.{AreContents}
use Rattle.event_files.specs.declared.refusal.ReportFault.TheVariants as report
use Rattle.site_commands.specs.declared.line.Refusal.{Refusal}
use Rattle.site_commands.specs.declared.line.Refusal.TheVariants as refusal
use Rattle.site_commands.specs.declared.pieces.LineAt.{LineAt}
use Rattle.site_commands.specs.declared.pieces.RefusedLine.{RefusedLine}

-- ---- lines

-- a line of a file: where it stands, and its bytes
pub record FileLine : Type 0 where
  pub at : LineAt
  pub bytes : List ℕ

-- white space of JSON (RFC 8259, section 2) in a file's line, but for LF
abbrev pub is_white : ℕ → Bool
is_white b = b == 32 || b == 9 || b == 13

-- there is nothing but white space in a file's line
abbrev pub is_blank : List ℕ → Bool
is_blank line = list_all is_white line

-- the lines of a file's text: what stands between its LFs
abbrev pub lines_of : List ℕ → List (List ℕ)
lines_of bytes = slice_split (λ b. b == 10) bytes

-- a line of this file, behind so many others, unless it is blank
abbrev pub line_at : ℕ → ℕ → List ℕ → List FileLine
line_at file before line = if is_blank line then []
    else record { at = record { file = file; line = suc before }; bytes = line } ∷ []

-- the lines of this file that aren't blank, behind so many others, each with its number from 1
abbrev pub lines_from : ℕ → ℕ → List (List ℕ) → List FileLine
lines_from file before [] = []
lines_from file before (line ∷ lines) =
    line_at file before line ++ lines_from file (suc before) lines

-- the lines of files, behind so many others, file by file
abbrev pub lines_behind : ℕ → List (List ℕ) → List FileLine
lines_behind before [] = []
lines_behind before (bytes ∷ contents) =
    lines_from before 0 (lines_of bytes) ++ lines_behind (suc before) contents

-- the lines of all files that aren't blank, file by file
abbrev pub file_lines : List (List ℕ) → List FileLine
file_lines contents = lines_behind 0 contents

-- the bytes of the files' lines
abbrev pub bytes_of_lines : List FileLine → List (List ℕ)
bytes_of_lines lines = map (λ l. l.bytes) lines

-- where the lines of the files stand, for error lines
abbrev pub places_of_lines : List FileLine → List LineAt
places_of_lines lines = map (λ l. l.at) lines

-- ---- what is judged

-- what is judged of the contents of files: each as a whole, or each line as a file of its own
abbrev pub pieces_of : Bool → List (List ℕ) → List (List ℕ)
pieces_of false contents = contents
pieces_of true contents = bytes_of_lines (file_lines contents)

-- where the lines that are judged of files stand, if they are lines
abbrev pub places_in : Bool → List (List ℕ) → List LineAt
places_in false contents = []
places_in true contents = places_of_lines (file_lines contents)

-- the files were read, and these texts are judged of them
pub record ArePieces (C : List ℕ → List ℕ → Type 0) (has_lines : Bool) (files texts : List (List ℕ))
    (places : List LineAt) : Type 0 where
  pub contents : List (List ℕ)
  pub read : AreContents C files contents
  pub cut : texts ≡ pieces_of has_lines contents
  pub stand : places ≡ places_in has_lines contents

-- this line is the first at fault of all files, and this is its first fault
pub record IsLineAtFault (contents : List (List ℕ)) (refused : RefusedLine) : Type 0 where
  pub place : ℕ
  pub is_there : slice_get (places_of_lines (file_lines contents)) place ≡ Some refused.at
  pub at_fault : IsAtFault (bytes_of_lines (file_lines contents)) place refused.fault

-- the input is refused: memory ran out, or it is the first file at fault, or the first judged line
abbrev pub IsInputRefused : Bool → List (List ℕ) → Refusal → Type 0
IsInputRefused false contents (refusal.File refused) = IsRefusal contents refused
IsInputRefused true contents (refusal.Line refused) =
    (refused.fault ≡ report.OutOfMemory) ⊎ IsLineAtFault contents refused
IsInputRefused _ contents _ = ⊥
