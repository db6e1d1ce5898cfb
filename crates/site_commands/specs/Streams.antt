-- A file whose lines are kept and acknowledged as they come. C says what a name is read as, U why a
-- name isn't read.
use Rattle.std.specs.Prelude.{◌≡◌, ◌≢◌, ◌⊎◌, ℕ, zero, suc, List, Option, Some}
use Rattle.std.specs.Io.KnownBytes.{IsAtEnd, Keeps}
use Rattle.event_files.specs.declared.input.Unread.{Unread}
use Rattle.event_files.specs.declared.input.Unread.TheVariants as unread
use Rattle.event_files.specs.declared.shelf.UnreadAt.{UnreadAt}
use Rattle.line_intake.specs.Acknowledged.{AreTold, TellsAll, TellsPart, TellsSome}
use Rattle.line_intake.specs.Judged.{faults_in}
use Rattle.line_intake.specs.declared.answer.Told.{Told}
use Rattle.line_intake.specs.declared.line.LineFault.{LineFault}
use Rattle.line_intake.specs.declared.line.LineFault.TheVariants as line
use Rattle.databases.specs.declared.stream.StreamFault.{StreamFault}
use Rattle.databases.specs.declared.stream.StreamFault.TheVariants as stream
use Rattle.site_commands.specs.declared.line.Refusal.{Refusal}
use Rattle.site_commands.specs.declared.line.Refusal.TheVariants as refusal
use Rattle.site_commands.specs.declared.stream.StreamEnd.{StreamEnd}
use Rattle.site_commands.specs.declared.stream.StreamEnd.TheVariants as end

-- ---- what is written of the lines of a file

-- `follow` acknowledges every line of its file, and none is at fault
pub record AnswersFollow (C : List ℕ → List ℕ → Type 0) (file text : List ℕ) : Type 0 where
  pub bytes : List ℕ
  pub of_file : C file bytes
  pub left : Option (List ℕ)
  pub over : IsAtEnd left
  pub tells : List Told
  pub told : AreTold (Some bytes) left tells text
  pub faultless : faults_in tells ≡ 0

-- `follow` acknowledges every line of its file, and so many are at fault
pub record FollowsAll (C : List ℕ → List ℕ → Type 0) (file : List ℕ) (out out' : Option (List ℕ))
    (faults : ℕ) : Type 0 where
  pub bytes : List ℕ
  pub of_file : C file bytes
  pub tells : TellsAll (Some bytes) out out' faults

-- `follow` acknowledges some lines of its file, from the first on
pub record FollowsSome (C : List ℕ → List ℕ → Type 0) (file : List ℕ) (out out' : Option (List ℕ))
    : Type 0 where
  pub bytes : List ℕ
  pub of_file : C file bytes
  pub tells : TellsSome (Some bytes) out out'

-- `follow` acknowledges lines but for the rest of their acknowledgements, which couldn't be written
pub record FollowsPart (C : List ℕ → List ℕ → Type 0) (file : List ℕ) (out out' : Option (List ℕ))
    : Type 0 where
  pub bytes : List ℕ
  pub of_file : C file bytes
  pub tells : TellsPart (Some bytes) out out'

-- ---- why a file isn't followed to its end, or not all of its lines are taken

-- a command's input that couldn't be read on, as a file that wasn't read
abbrev pub unread_of : LineFault → UnreadAt
unread_of line.OutOfMemory = record { file = 0; why = unread.OutOfMemory }
unread_of line.CannotRead = record { file = 0; why = unread.CannotRead }

-- a command's stream that came to the end of its input, with so many lines at fault
abbrev pub end_of_stream : ℕ → StreamEnd
end_of_stream zero = end.Done
end_of_stream (suc faults) = end.Refused (refusal.Lines (suc faults))

-- a stream of `follow` that stopped before its end, for this fault
abbrev pub end_at : StreamFault → StreamEnd
end_at (stream.Input why) = end.Refused (refusal.Unread (unread_of why))
end_at (stream.Database why) = end.Refused (refusal.Database why)
end_at stream.Unwritten = end.Unwritten

-- why `follow` is refused: the file wasn't read, and nothing was written; or, if it was, memory ran
-- out or a read failed, or the database is the cause, and the lines before are acknowledged; or so
-- many of its lines are at fault, as one that is too large, and every line is acknowledged
abbrev pub RefusesFollow : (List ℕ → List ℕ → Type 0) → (List ℕ → Unread → Type 0) → List ℕ
    → Refusal → Option (List ℕ) → Option (List ℕ) → Type 0
RefusesFollow C U file (refusal.Unread at) out out' =
    ((at.file ≡ 0) × U file at.why × Keeps out out')
    ⊎ ((why : LineFault) × (at ≡ unread_of why) × FollowsSome C file out out')
RefusesFollow C U file (refusal.Database why) out out' = FollowsSome C file out out'
RefusesFollow C U file (refusal.Lines faults) out out' =
    (faults ≢ 0) × FollowsAll C file out out' faults
RefusesFollow C U file _ out out' = ⊥

-- what `follow` writes where its stream ends so
abbrev pub EndsSo : (List ℕ → List ℕ → Type 0) → (List ℕ → Unread → Type 0) → List ℕ → StreamEnd
    → Option (List ℕ) → Option (List ℕ) → Type 0
EndsSo C U file end.Done out out' = FollowsAll C file out out' 0
EndsSo C U file (end.Refused refusal) out out' = RefusesFollow C U file refusal out out'
EndsSo C U file end.Unwritten out out' = FollowsPart C file out out'
