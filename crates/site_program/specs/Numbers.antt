-- A file whose lines' events are numbered as they come. C says what a name is read as, U why a name
-- isn't read. The streams are standard output, then standard error, before and after.
use Rattle.std.specs.Prelude.{◌≡◌, ◌≢◌, ◌⊎◌, ℕ, List, Option, Result, Ok, Err, Some}
use Rattle.std.specs.Io.KnownBytes.{IsAtEnd, Keeps}
use Rattle.attributes.specs.Event.{EventValue}
use Rattle.command_words.specs.declared.request.Number.{Number}
use Rattle.databases.specs.declared.fault.CommandFault.TheVariants as command
use Rattle.event_files.specs.declared.input.Unread.{Unread}
use Rattle.line_intake.specs.declared.line.LineFault.{LineFault}
use Rattle.number_table.specs.Each.{AreNumberedEach}
use Rattle.number_table.specs.declared.fault.NumbererFault.{NumbererFault}
use Rattle.number_table.specs.declared.fault.NumbererFault.TheVariants as numberer
use Rattle.number_lines.specs.Judged.{refusals_in}
use Rattle.number_lines.specs.Numbering.{AreLinesNumbered, NumbersAll, NumbersRest, NumbersSome}
use Rattle.number_lines.specs.Texts.{numbered_text}
use Rattle.number_lines.specs.declared.named.NumberEnd.{NumberEnd}
use Rattle.number_lines.specs.declared.named.NumberEnd.TheVariants as number
use Rattle.number_lines.specs.declared.refusal.Told.{Told}
use Rattle.number_lines.specs.declared.stream.NumberingFault.TheVariants as numbering
use Rattle.site_commands.specs.Streams.{end_of_stream, unread_of}
use Rattle.site_commands.specs.declared.line.Refusal.{Refusal}
use Rattle.site_commands.specs.declared.line.Refusal.TheVariants as refusal
use Rattle.site_commands.specs.declared.stream.StreamEnd.{StreamEnd}
use Rattle.site_commands.specs.declared.stream.StreamEnd.TheVariants as end
use Rattle.site_commands.specs.Endings.{SaysRefusal}
use Rattle.site_commands.specs.Names.{of_number}

-- `number` answers each line's events with numbers, and no line is refused
pub record AnswersNumbering (C : List ℕ → List ℕ → Type 0) (lines : Number) (text : List ℕ)
    : Type 0 where
  pub bytes : List ℕ
  pub of_file : C lines.file bytes
  pub left : Option (List ℕ)
  pub over : IsAtEnd left
  pub tells : List Told
  pub answers : List (List EventValue)
  pub are : AreLinesNumbered lines.aside AreNumberedEach (Some bytes) left tells answers
  pub is : text ≡ numbered_text tells answers
  pub faultless : refusals_in tells ≡ 0

-- `number` answers every line of the file, and so many are refused
pub record NumbersFile (C : List ℕ → List ℕ → Type 0) (lines : Number)
    (out out' err err' : Option (List ℕ)) (faults : ℕ) : Type 0 where
  pub bytes : List ℕ
  pub of_file : C lines.file bytes
  pub all : NumbersAll lines.aside AreNumberedEach faults (Some bytes) out out' err err'

-- `number` answers some lines of the file, from the first on
pub record NumbersFront (C : List ℕ → List ℕ → Type 0) (lines : Number)
    (out out' err err' : Option (List ℕ)) : Type 0 where
  pub bytes : List ℕ
  pub of_file : C lines.file bytes
  pub some : NumbersSome lines.aside AreNumberedEach (Some bytes) out out' err err'

-- `number` answers the file's lines but for the rests of the texts, which weren't written
pub record NumbersUnsaid (C : List ℕ → List ℕ → Type 0) (lines : Number)
    (out out' err err' : Option (List ℕ)) : Type 0 where
  pub bytes : List ℕ
  pub of_file : C lines.file bytes
  pub part : NumbersRest lines.aside AreNumberedEach (Some bytes) out out' err err'

-- what refusal of the command `number` a numberer's is
abbrev pub refusal_of : NumbererFault → Refusal
refusal_of numberer.OutOfMemory = refusal.Database command.OutOfMemory
refusal_of (numberer.HasSequence i) = refusal.Database command.Store
refusal_of (numberer.TooLarge i) = refusal.Database command.Store
refusal_of (numberer.Full i) = refusal.NoNumber
refusal_of numberer.Store = refusal.Database command.Store
refusal_of numberer.Foreign = refusal.Database command.Foreign

-- how the stream of the command `number` ended
abbrev pub number_end : Result ℕ NumberEnd → StreamEnd
number_end (Ok faults) = end_of_stream faults
number_end (Err (number.Database why)) = end.Refused (refusal.Database why)
number_end (Err (number.Stream (numbering.Input why))) = end.Refused (refusal.Unread (unread_of why))
number_end (Err (number.Stream (numbering.Numberer why))) = end.Refused (refusal_of why)
number_end (Err (number.Stream numbering.Unwritten)) = end.Unwritten

-- why `number` is refused: the file wasn't read, and nothing was written; or, where it was, memory
-- ran out or a read failed, or the database is the cause, and the lines before are answered; or so
-- many of its lines are refused, and every line is answered or told
abbrev pub RefusesNumbers : (List ℕ → List ℕ → Type 0) → (List ℕ → Unread → Type 0) → Number
    → Refusal → Option (List ℕ) → Option (List ℕ) → Option (List ℕ) → Option (List ℕ) → Type 0
RefusesNumbers C U lines (refusal.Unread at) out out' err err' =
    ((at.file ≡ 0) × U lines.file at.why × Keeps out out' × Keeps err err')
    ⊎ ((why : LineFault) × (at ≡ unread_of why) × NumbersFront C lines out out' err err')
RefusesNumbers C U lines (refusal.Database why) out out' err err' =
    NumbersFront C lines out out' err err'
    ⊎ ((why ≡ command.OutOfMemory) × NumbersUnsaid C lines out out' err err')
RefusesNumbers C U lines refusal.NoNumber out out' err err' = NumbersFront C lines out out' err err'
RefusesNumbers C U lines (refusal.Lines faults) out out' err err' =
    (faults ≢ 0) × NumbersFile C lines out out' err err' faults
RefusesNumbers C U lines _ out out' err err' = ⊥

-- what the command `number` writes where its stream ends so
abbrev pub EndsNumbering : (List ℕ → List ℕ → Type 0) → (List ℕ → Unread → Type 0) → Number
    → StreamEnd → Option (List ℕ) → Option (List ℕ) → Option (List ℕ) → Option (List ℕ) → Type 0
EndsNumbering C U lines end.Done out out' err err' = NumbersFile C lines out out' err err' 0
EndsNumbering C U lines (end.Refused refusal) out out' err err' =
    RefusesNumbers C U lines refusal out out' err err'
EndsNumbering C U lines end.Unwritten out out' err err' = NumbersUnsaid C lines out out' err err'

-- how a stream of lines that are numbered ends: every line is answered and none refused, or it is
-- refused and the line of the refusal said behind what was said of lines, or a write failed, and
-- then nothing is said
abbrev pub EndsNumbers : (List ℕ → List ℕ → Type 0) → (List ℕ → Unread → Type 0) → Number → ℕ
    → Option (List ℕ) → Option (List ℕ) → Option (List ℕ) → Option (List ℕ) → Type 0
EndsNumbers C U lines result out out' err err' =
    ((result ≡ 0) × NumbersFile C lines out out' err err' 0)
    ⊎ (((refusal : Refusal) × (mid : Option (List ℕ))
    × RefusesNumbers C U lines refusal out out' err mid
    × SaysRefusal (of_number lines) refusal result mid err')
    ⊎ ((result ≡ 1) × NumbersUnsaid C lines out out' err err'))
