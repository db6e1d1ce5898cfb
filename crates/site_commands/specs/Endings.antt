-- What each ending writes, to which stream, with which status.
use Rattle.std.specs.Prelude.{◌≡◌, ◌⊎◌, ℕ, List, Option}
use Rattle.attributes.specs.Event.{EventValue}
use Rattle.databases.specs.Pages.{pages_below, pages_text}
use Rattle.std.specs.Io.KnownBytes.{Appends, Keeps}
use Rattle.site_commands.specs.declared.ending.Ending.{Ending}
use Rattle.site_commands.specs.declared.ending.Ending.TheVariants as ending
use Rattle.command_words.specs.declared.request.Follow.{Follow}
use Rattle.event_files.specs.declared.input.Unread.{Unread}
use Rattle.line_intake.specs.Written.{Wrote}
use Rattle.site_commands.specs.Lines.{line_of, memory_line}
use Rattle.site_commands.specs.Names.{Names, names_of_follow}
use Rattle.site_commands.specs.Streams.{FollowsAll, FollowsPart, RefusesFollow}
use Rattle.site_commands.specs.declared.line.Refusal.{Refusal}

-- the standard stream grew by the text and the exit status is this one, or the writing failed: it
-- grew by a front of the text, and the status is 1
abbrev pub Writes : ℕ → ℕ → Option (List ℕ) → Option (List ℕ) → List ℕ → Type 0
Writes result status old new text = ((result ≡ status) × Appends old new text)
    ⊎ ((result ≡ 1) × (rest : List ℕ) × Wrote old new text rest)

-- the standard stream grew by the text, or, where the writing failed, by a front of it
abbrev pub GrowsBy : Option (List ℕ) → Option (List ℕ) → List ℕ → Type 0
GrowsBy old new text = Appends old new text ⊎ ((rest : List ℕ) × Wrote old new text rest)

-- standard output grew by all pages, or, where the writing failed, by a front of them, and then
-- nothing was said; or memory ran out behind so many whole pages, and standard error says so
abbrev pub EndsPages : List EventValue → ℕ → Option (List ℕ) → Option (List ℕ)
    → Option (List ℕ) → Option (List ℕ) → Type 0
EndsPages events result out out' err err' =
    ((result ≡ 0) × Appends out out' (pages_text events) × Keeps err err')
    ⊎ ((result ≡ 1)
    × ((((rest : List ℕ) × Wrote out out' (pages_text events) rest) × Keeps err err')
    ⊎ ((done : ℕ) × Appends out out' (pages_below done events)
    × Writes result 1 err err' memory_line)))

-- how the program ends; the streams are standard output, then standard error, before and after
abbrev pub Ends : Ending → ℕ → Option (List ℕ) → Option (List ℕ)
    → Option (List ℕ) → Option (List ℕ) → Type 0
Ends (ending.Answer text) result out out' err err' = Writes result 0 out out' text × Keeps err err'
Ends (ending.Told text made) result out out' err err' =
    Writes result 0 out out' text × GrowsBy err err' made
Ends (ending.Pages events) result out out' err err' = EndsPages events result out out' err err'
Ends (ending.Findings text) result out out' err err' =
    Writes result 1 out out' text × Keeps err err'
Ends (ending.Help text) result out out' err err' = Writes result 2 out out' text × Keeps err err'
Ends (ending.Faulty text) result out out' err err' = Writes result 2 err err' text × Keeps out out'
Ends (ending.Refused text hint) result out out' err err' = Writes result 1 err err' text × Keeps out out'
Ends (ending.Uncombined text hint) result out out' err err' =
    Writes result 1 err err' text × Keeps out out'
Ends (ending.Unsaved text hint) result out out' err err' =
    Writes result 1 err err' text × Keeps out out'
Ends ending.NoMemory result out out' err err' =
    Writes result 1 err err' memory_line × Keeps out out'

-- standard error grew by the line of a refusal of a plan that names these, or, where memory was
-- wanted for it, by the line that says so; or by a front of it
abbrev pub SaysRefusal : Names → Refusal → ℕ → Option (List ℕ) → Option (List ℕ) → Type 0
SaysRefusal names refusal status err err' = Writes status 1 err err' (line_of names refusal)
    ⊎ Writes status 1 err err' memory_line

-- how a stream ends. The streams are standard output, then standard error, before and after: every
-- line of the file is acknowledged and none at fault, or it is refused and the line of the refusal
-- said, or an acknowledgement couldn't be written, and then nothing is said
abbrev pub EndsStream : (List ℕ → List ℕ → Type 0) → (List ℕ → Unread → Type 0) → Follow → ℕ
    → Option (List ℕ) → Option (List ℕ) → Option (List ℕ) → Option (List ℕ) → Type 0
EndsStream C U lines result out out' err err' =
    ((result ≡ 0) × FollowsAll C lines.file out out' 0 × Keeps err err')
    ⊎ (((refusal : Refusal) × RefusesFollow C U lines.file refusal out out'
    × SaysRefusal (names_of_follow lines) refusal result err err')
    ⊎ ((result ≡ 1) × FollowsPart C lines.file out out' × Keeps err err'))
