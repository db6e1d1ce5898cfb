-- What the words after the program's name come to.
use Rattle.std.specs.Prelude.{◌≡◌, ◌⊎◌, ℕ, List, None, Option, false, true}
use Rattle.std.specs.Io.KnownBytes.{Appends}
use Rattle.command_words.specs.Plans.{AreFaulty, IsPlan}
use Rattle.command_words.specs.declared.fault.Faulty.{Faulty}
use Rattle.command_words.specs.declared.fault.Faulty.TheVariants as faulty
use Rattle.command_words.specs.declared.request.Alone.{Alone}
use Rattle.command_words.specs.declared.request.Alone.TheVariants as alone
use Rattle.command_words.specs.declared.request.Check.{Check}
use Rattle.command_words.specs.declared.request.Combine.{Combine}
use Rattle.command_words.specs.declared.request.Follow.{Follow}
use Rattle.command_words.specs.declared.request.Number.{Number}
use Rattle.command_words.specs.declared.request.Plan.{Plan}
use Rattle.command_words.specs.declared.request.Plan.TheVariants as plan
use Rattle.command_words.specs.declared.request.Run.{Run}
use Rattle.command_words.specs.declared.request.Once.{Once}
use Rattle.command_words.specs.declared.request.Split.{Split}
use Rattle.databases.specs.Pages.{pages_text}
use Rattle.event_files.specs.declared.input.Unread.{Unread}
use Rattle.site_program.specs.Answers.{AnswersOnce, AnswersPlan, AnswersRun, RefusesOnce, RefusesPlan, RefusesRun}
use Rattle.site_commands.specs.Checks.{FindsSome, IsCheckEnding}
use Rattle.site_commands.specs.Endings.{Ends, EndsStream}
use Rattle.site_program.specs.Numbers.{EndsNumbers}
use Rattle.site_commands.specs.Lines.{arguments_line, line_of}
use Rattle.site_commands.specs.Names.{of_once, of_plan, of_run}
use Rattle.site_commands.specs.Parts.{IsCombineEnding, RefusesCombine}
use Rattle.site_commands.specs.Splits.{RefusesSplit}
use Rattle.site_commands.specs.declared.ending.Ending.{Ending}
use Rattle.site_commands.specs.declared.ending.Ending.TheVariants as ending
use Rattle.site_commands.specs.declared.line.Refusal.{Refusal}
use Rattle.site_commands.specs.Comes.{ComesTo, IsSplitEnding, TellsMade}

-- the words after the program's name are a plan, and the text is its answer
pub record AnswersWords (C : List ℕ → List ℕ → Type 0) (words : List (List ℕ))
    (text : List ℕ) : Type 0 where
  pub plan : Plan
  pub planned : IsPlan words plan
  pub answered : AnswersPlan C plan text

-- the command line is a plan, the text its answer, and these the lines of what was made for it
pub record TellsWords (C : List ℕ → List ℕ → Type 0) (words : List (List ℕ))
    (text made : List ℕ) : Type 0 where
  pub plan : Plan
  pub planned : IsPlan words plan
  pub answered : AnswersPlan C plan text
  pub tells : TellsMade (of_plan plan).db made

-- the command line is a plan that has no answer, and the text is the error line that says why
pub record RefusesWords (C : List ℕ → List ℕ → Type 0) (U : List ℕ → Unread → Type 0)
    (words : List (List ℕ)) (text : List ℕ) : Type 0 where
  pub plan : Plan
  pub planned : IsPlan words plan
  pub refusal : Refusal
  pub refused : RefusesPlan C U plan refusal
  pub is_line : text ≡ line_of (of_plan plan) refusal

-- the words are a `check`, and the text has the lines of what is at fault
pub record FindsWords (C : List ℕ → List ℕ → Type 0) (words : List (List ℕ))
    (text : List ℕ) : Type 0 where
  pub judged : Check
  pub planned : IsPlan words (plan.Alone (alone.Check judged))
  pub found : FindsSome C judged text

-- the command line asks for the answers of parts as one, and the text is the error line on why not
pub record UncombinedWords (C : List ℕ → List ℕ → Type 0) (U : List ℕ → Unread → Type 0)
    (words : List (List ℕ)) (text : List ℕ) : Type 0 where
  pub asked : Combine
  pub planned : IsPlan words (plan.Alone (alone.Combine asked))
  pub refused : RefusesCombine C U asked text

-- the words ask for parts in files, and the text is the error line of the first that wasn't saved
pub record UnsavedWords (C : List ℕ → List ℕ → Type 0) (words : List (List ℕ))
    (text : List ℕ) : Type 0 where
  pub asked : Split
  pub planned : IsPlan words (plan.Alone (alone.Split asked))
  pub refused : RefusesSplit C asked text

-- what a plan of the program with one answer comes to
abbrev pub IsOnceEnding : (List ℕ → List ℕ → Type 0) → (List ℕ → Unread → Type 0)
    → Once → Ending → Type 0
IsOnceEnding C U asked ending =
    ComesTo (AnswersOnce C asked) (RefusesOnce C U asked) (of_once asked) ending

-- what a run comes to for the program
abbrev pub IsRunEnding : (List ℕ → List ℕ → Type 0) → (List ℕ → Unread → Type 0)
    → Run → Ending → Type 0
IsRunEnding C U run ending = ComesTo (AnswersRun C run.peer run.files run.has_lines)
    (RefusesRun C U run.peer run.files run.has_lines) (of_run run) ending

-- what the words of the command line come to, as the program's ending
abbrev pub IsEnding : (List ℕ → List ℕ → Type 0) → (List ℕ → Unread → Type 0)
    → List (List ℕ) → Ending → Type 0
IsEnding C U words (ending.Answer text) = AnswersWords C words text
IsEnding C U words (ending.Told text made) = TellsWords C words text made
IsEnding C U words (ending.Pages events) = AnswersWords C words (pages_text events)
IsEnding C U words (ending.Findings text) = FindsWords C words text
IsEnding C U words (ending.Help text) = AreFaulty words
IsEnding C U words (ending.Faulty text) = AreFaulty words
IsEnding C U words (ending.Refused text hint) = RefusesWords C U words text
IsEnding C U words (ending.Uncombined text hint) = UncombinedWords C U words text
IsEnding C U words (ending.Unsaved text hint) = UnsavedWords C words text
IsEnding C U words ending.NoMemory = Unit {0}

-- what the program says of faulty words
abbrev pub said : Faulty → Ending
said (faulty.Words text true) = ending.Help text
said (faulty.Words text false) = ending.Faulty text
said faulty.OutOfMemory = ending.NoMemory

-- the program's plan comes to an ending, and it is written; or it is a stream, which is written as
-- it goes. Of the system's files it isn't known which are saved
abbrev pub RunsAlone : (List ℕ → List ℕ → Type 0) → (List ℕ → Unread → Type 0) → Alone → ℕ
    → Option (List ℕ) → Option (List ℕ) → Option (List ℕ) → Option (List ℕ) → Type 0
RunsAlone C U (alone.Once asked) status out out' err err' =
    (ending : Ending) × IsOnceEnding C U asked ending × Ends ending status out out' err err'
RunsAlone C U (alone.Follow lines) status out out' err err' =
    EndsStream C U lines status out out' err err'
RunsAlone C U (alone.Number lines) status out out' err err' =
    EndsNumbers C U lines status out out' err err'
RunsAlone C U (alone.Check judged) status out out' err err' =
    (ending : Ending) × IsCheckEnding C U judged ending × Ends ending status out out' err err'
RunsAlone C U (alone.Combine asked) status out out' err err' =
    (ending : Ending) × IsCombineEnding C U asked ending × Ends ending status out out' err err'
RunsAlone C U (alone.Split asked) status out out' err err' = (ending : Ending)
    × IsSplitEnding C U asked None None ending × Ends ending status out out' err err'

-- the program's run comes to an ending, and it is written
abbrev pub RunsBeside : (List ℕ → List ℕ → Type 0) → (List ℕ → Unread → Type 0) → Run → ℕ
    → Option (List ℕ) → Option (List ℕ) → Option (List ℕ) → Option (List ℕ) → Type 0
RunsBeside C U run status out out' err err' =
    (ending : Ending) × IsRunEnding C U run ending × Ends ending status out out' err err'

-- the program's words come to an ending, and it is written; the streams are standard output, then
-- standard error, before and after
pub record EndsWords (C : List ℕ → List ℕ → Type 0) (U : List ℕ → Unread → Type 0)
    (words : List (List ℕ)) (status : ℕ) (out out' err err' : Option (List ℕ)) : Type 0 where
  pub ending : Ending
  pub is_ending : IsEnding C U words ending
  pub ends : Ends ending status out out' err err'

-- the program's words are a stream, which is written as it goes
pub record StreamsWords (C : List ℕ → List ℕ → Type 0) (U : List ℕ → Unread → Type 0)
    (words : List (List ℕ)) (status : ℕ) (out out' err err' : Option (List ℕ)) : Type 0 where
  pub lines : Follow
  pub planned : IsPlan words (plan.Alone (alone.Follow lines))
  pub ends : EndsStream C U lines status out out' err err'

-- the program's words are a stream whose events are numbered
pub record NumbersWords (C : List ℕ → List ℕ → Type 0) (U : List ℕ → Unread → Type 0)
    (words : List (List ℕ)) (status : ℕ) (out out' err err' : Option (List ℕ)) : Type 0 where
  pub lines : Number
  pub planned : IsPlan words (plan.Alone (alone.Number lines))
  pub ends : EndsNumbers C U lines status out out' err err'

-- the program ended as the words of its command line come to
abbrev pub RunsWords : (List ℕ → List ℕ → Type 0) → (List ℕ → Unread → Type 0)
    → List (List ℕ) → ℕ → Option (List ℕ) → Option (List ℕ) → Option (List ℕ) → Option (List ℕ)
    → Type 0
RunsWords C U words status out out' err err' = EndsWords C U words status out out' err err'
    ⊎ (StreamsWords C U words status out out' err err'
    ⊎ NumbersWords C U words status out out' err err')

-- what the program says where its words couldn't be had
abbrev pub IsUnheard : Ending → Type 0
IsUnheard (ending.Faulty text) = text ≡ arguments_line
IsUnheard ending.NoMemory = Unit {0}
IsUnheard _ = ⊥

-- the program ended without words
abbrev pub EndsUnheard : ℕ → Option (List ℕ) → Option (List ℕ)
    → Option (List ℕ) → Option (List ℕ) → Type 0
EndsUnheard status out out' err err' =
    (ending : Ending) × IsUnheard ending × Ends ending status out out' err err'

-- the program's words are a plan, and standard output grew by its answer
abbrev pub PrintsAnswer : (List ℕ → List ℕ → Type 0) → List (List ℕ)
    → Option (List ℕ) → Option (List ℕ) → Type 0
PrintsAnswer C words out out' = (text : List ℕ) × AnswersWords C words text × Appends out out' text
