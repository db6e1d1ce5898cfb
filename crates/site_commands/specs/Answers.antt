-- What commands of the program are answered with, and why they are refused. C says what a name is
-- read as, U why a name isn't read.
use Rattle.std.specs.Prelude.{◌≡◌, ◌≤◌, Bool, List, ℕ, length, false, true, Option, None, Some}
use Rattle.attributes.specs.Character.{is_filled}
use Rattle.attributes.specs.Event.{EventValue}
use Rattle.attributes.specs.Sequence.{max_sequence}
use Rattle.coverage.specs.Summary.{Sources}
use Rattle.coverage.specs.SummaryText.{summary_text}
use Rattle.coverage.specs.Refusals as summaries
use Rattle.outbox.specs.declared.status.Status.{Status}
use Rattle.outbox.specs.declared.status.Status.TheVariants as status
use Rattle.command_words.specs.declared.request.Action.{Action}
use Rattle.command_words.specs.declared.request.Action.TheVariants as action
use Rattle.command_words.specs.declared.request.Pages.{Pages}
use Rattle.command_words.specs.declared.request.Pages.TheVariants as pages
use Rattle.databases.specs.Fault.{OrOfNamed}
use Rattle.databases.specs.Held.{HasArrived, HasDelta, HasEvents, IsUntold, SaysAllRows, SaysArrivals, SaysDelta, SaysOrder, SaysPage, SaysRows}
use Rattle.databases.specs.Pages.{pages_text}
use Rattle.databases.specs.Print.{WithoutLineEnd, counts_line}
use Rattle.databases.specs.declared.fault.CommandFault.{CommandFault}
use Rattle.inbox_table.specs.Rows.{AreNumbered}
use Rattle.command_words.specs.declared.request.Request.{Request}
use Rattle.event_files.specs.Shelves.{AreContents, IsUnreadAt}
use Rattle.event_files.specs.Files.{EachReads, SpellAll}
use Rattle.file_reports.specs.Reports.{IsReport, IsReportWith}
use Rattle.event_files.specs.declared.input.Unread.{Unread}
use Rattle.views.specs.declared.query.Query.{Query}
use Rattle.site_commands.specs.Pieces.{IsInputRefused, pieces_of}
use Rattle.site_commands.specs.declared.line.Refusal.{Refusal}
use Rattle.site_commands.specs.declared.line.Refusal.TheVariants as refusal

-- the text is the report of the files' contents, and of some events with numbers of the database
-- where one is given
abbrev pub AnswersQuery : (List ℕ → List ℕ → Type 0) → Query → Bool → Option (List ℕ)
    → List (List ℕ) → List ℕ → Type 0
AnswersQuery C query has_lines None files text = (contents : List (List ℕ))
    × AreContents C files contents × IsReport query (pieces_of has_lines contents) text
AnswersQuery C query has_lines (Some db) files text = (contents : List (List ℕ))
    × AreContents C files contents
    × (held : List EventValue) × AreNumbered held
    × IsReportWith query held (pieces_of has_lines contents) text

-- the program's files were read, and this is the first of them at fault, or the first line at fault
abbrev pub RefusesPiece : (List ℕ → List ℕ → Type 0) → Bool → List (List ℕ) → Refusal → Type 0
RefusesPiece C has_lines files refusal =
    (contents : List (List ℕ)) × AreContents C files contents × IsInputRefused has_lines contents refusal

-- why a query is refused: the first file that wasn't read, or, where all were, the first file or
-- line at fault, or, where none was, the database, if one is given
abbrev pub RefusesQuery : (List ℕ → List ℕ → Type 0) → (List ℕ → Unread → Type 0)
    → Bool → Option (List ℕ) → List (List ℕ) → Refusal → Type 0
RefusesQuery C U has_lines db files (refusal.Unread at) = IsUnreadAt C U files at
RefusesQuery C U has_lines db files (refusal.File refused) =
    RefusesPiece C has_lines files (refusal.File refused)
RefusesQuery C U has_lines db files (refusal.Line refused) =
    RefusesPiece C has_lines files (refusal.Line refused)
RefusesQuery C U has_lines (Some db) files (refusal.Database why) =
    (contents : List (List ℕ)) × AreContents C files contents
    × ((lists : List (List EventValue)) × EachReads (pieces_of has_lines contents) lists)
    × OrOfNamed IsUntold why
RefusesQuery C U has_lines db files _ = ⊥

-- why a question that is asked of files alone is refused
abbrev pub RefusesFiles : (List ℕ → List ℕ → Type 0) → (List ℕ → Unread → Type 0)
    → Bool → List (List ℕ) → Refusal → Type 0
RefusesFiles C U has_lines files = RefusesQuery C U has_lines None files

-- the printed text is a page of an outbox's rows behind a number, or all pages
abbrev pub SaysRelay : ℕ → Bool → List ℕ → Type 0
SaysRelay after false text = SaysRows after text
SaysRelay after true text = SaysAllRows after text

-- the status that an order gets by what the command line has done with it
abbrev pub status_by_action : Action → Status
status_by_action action.Place = status.Placed
status_by_action action.Ship = status.Shipped
status_by_action action.Cancel = status.Cancelled

-- the answer is the event of the command line's command on an order, of the source, if it was named
abbrev pub AnswersOrder : Request → List ℕ → Type 0
AnswersOrder r text = SaysOrder r.is_source_named r.source
    (record { status = status_by_action r.action; order = r.order; at = r.at }) text

-- what the command line asks of an order is within what a service allows: its source, the order's
-- number, and the length of the time
pub record IsAllowedRequest (r : Request) : Type 0 where
  pub filled : is_filled r.source ≡ true
  pub short : length r.source ≤ 1024
  pub low : 1 ≤ r.order
  pub high : r.order ≤ max_sequence
  pub at : length r.at ≤ 64

-- the text counts the events of the files, and so many of them as new
abbrev pub AnswersTake : (List ℕ → List ℕ → Type 0) → Bool → List (List ℕ) → List ℕ → Type 0
AnswersTake C has_lines files text = (contents : List (List ℕ)) × AreContents C files contents
    × (events : List EventValue) × SpellAll (pieces_of has_lines contents) events
    × (fresh : ℕ) × (text ≡ counts_line (length events) fresh)

-- why `take` is refused: the first file that wasn't read, or, where all were, the first file or
-- line at fault, or, where none was, the database
abbrev pub RefusesTake : (List ℕ → List ℕ → Type 0) → (List ℕ → Unread → Type 0)
    → Bool → List (List ℕ) → Refusal → Type 0
RefusesTake C U has_lines files (refusal.Unread at) = IsUnreadAt C U files at
RefusesTake C U has_lines files (refusal.File refused) =
    RefusesPiece C has_lines files (refusal.File refused)
RefusesTake C U has_lines files (refusal.Line refused) =
    RefusesPiece C has_lines files (refusal.Line refused)
RefusesTake C U has_lines files (refusal.Database why) =
    (contents : List (List ℕ)) × AreContents C files contents
    × ((events : List EventValue) × SpellAll (pieces_of has_lines contents) events)
    × OrOfNamed IsUntold why
RefusesTake C U has_lines files _ = ⊥

-- the file's bytes, but for one LF at their end, are the text of this summary
abbrev pub HasSummary : (List ℕ → List ℕ → Type 0) → List ℕ → Sources → Type 0
HasSummary C file s = (bytes : List ℕ) × C file bytes
    × (words : List ℕ) × WithoutLineEnd bytes words × (words ≡ summary_text s)

-- the answer is the page, from a place on, of what a file's summary lacks of events, or all pages
abbrev pub SaysLacking : Sources → Pages → List ℕ → Type 0
SaysLacking s (pages.Behind n) text = SaysDelta s n text
SaysLacking s pages.All text =
    (events : List EventValue) × HasDelta s events × (text ≡ pages_text events)

-- the printed answer is the page of some events from a place on, or all pages
abbrev pub SaysPages : Pages → List ℕ → Type 0
SaysPages (pages.Behind n) text = SaysPage n text
SaysPages pages.All text =
    (events : List EventValue) × HasEvents events × (text ≡ pages_text events)

-- the printed answer is the page of some events behind the first so many, or all pages
abbrev pub SaysArrived : ℕ → Bool → List ℕ → Type 0
SaysArrived after false text = SaysArrivals after text
SaysArrived after true text =
    (events : List EventValue) × HasArrived after events × (text ≡ pages_text events)

-- the file has a summary, and the text has the pages that are asked for of what it lacks of some
-- events
abbrev pub AnswersDelta : (List ℕ → List ℕ → Type 0) → Pages → List ℕ → List ℕ → Type 0
AnswersDelta C which file text = (s : Sources) × HasSummary C file s × SaysLacking s which text

-- why `delta` is refused: the file wasn't read, or has no summary, or, if it has one, the database
abbrev pub RefusesDelta : (List ℕ → List ℕ → Type 0) → (List ℕ → Unread → Type 0)
    → List ℕ → Refusal → Type 0
RefusesDelta C U file (refusal.Unread at) = U file at.why
RefusesDelta C U file (refusal.Summary why) = (bytes : List ℕ) × C file bytes
    × (words : List ℕ) × WithoutLineEnd bytes words × summaries.RefusesSummary words why
RefusesDelta C U file (refusal.Database why) =
    ((s : Sources) × HasSummary C file s) × OrOfNamed IsUntold why
RefusesDelta C U file _ = ⊥

-- the database is the cause of the program's refusal, by a command's fault or by one of its file
abbrev pub IsOfDatabase : (CommandFault → Type 0) → Refusal → Type 0
IsOfDatabase Fails (refusal.Database why) = OrOfNamed Fails why
IsOfDatabase Fails _ = ⊥
