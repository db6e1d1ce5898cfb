-- What the plans of the program are answered with, and why they are refused. C says what a name is
-- read as, U why a name isn't read.
use Rattle.std.specs.Prelude.{◌≡◌, ◌≤◌, ◌<◌, Bool, IfSome, List, ℕ, length, true, Option, None}
use Rattle.std.specs.Option.{is_some}
use Rattle.attributes.specs.Character.{is_filled}
use Rattle.attributes.specs.Sequence.{max_sequence}
use Rattle.command_words.specs.Plans.{AreFew}
use Rattle.databases.specs.Fault.{IsOfOrder}
use Rattle.databases.specs.Held.{IsNoOrders, IsNoRows, IsUntold, SaysSummary}
use Rattle.databases.specs.Service.{SaysService}
use Rattle.command_words.specs.declared.request.Plan.{Plan}
use Rattle.command_words.specs.declared.request.Plan.TheVariants as plan
use Rattle.command_words.specs.declared.request.Alone.{Alone}
use Rattle.command_words.specs.declared.request.Alone.TheVariants as alone
use Rattle.command_words.specs.declared.request.Once.{Once}
use Rattle.command_words.specs.declared.request.Once.TheVariants as once
use Rattle.event_files.specs.Shelves.{AreContents, IsUnreadAt}
use Rattle.event_files.specs.declared.input.Unread.{Unread}
use Rattle.parts.specs.Part.{IsCountOfParts}
use Rattle.site_program.specs.Jobs.{AnswersJobs, RefusesJobs}
use Rattle.site_commands.specs.Names.{files_of_run}
use Rattle.site_program.specs.Numbers.{AnswersNumbering}
use Rattle.site_commands.specs.Parts.{AnswersCombine, AnswersPart}
use Rattle.site_commands.specs.Splits.{AnswersSplit}
use Rattle.site_commands.specs.Streams.{AnswersFollow}
use Rattle.site_commands.specs.Checks.{FindsNone, RefusesCheck}
use Rattle.site_commands.specs.declared.line.Refusal.{Refusal}
use Rattle.site_commands.specs.declared.line.Refusal.TheVariants as refusal
use Rattle.site_commands.specs.Answers.{AnswersDelta, AnswersOrder, AnswersQuery, AnswersTake, IsAllowedRequest, IsOfDatabase, RefusesDelta, RefusesQuery, RefusesTake, SaysArrived, SaysPages, SaysRelay}

-- all files were read, and the answer tells of a run of the feeds
abbrev pub AnswersRun : (List ℕ → List ℕ → Type 0) → Option (List ℕ) → List (List ℕ) → Bool
    → List ℕ → Type 0
AnswersRun C peer files has_lines text = (contents : List (List ℕ))
    × AreContents C (files_of_run peer files) contents
    × AnswersJobs (is_some peer) has_lines contents text

-- why a run is refused: the first file that wasn't read; or, where all were, what came of them
abbrev pub RefusesRun : (List ℕ → List ℕ → Type 0) → (List ℕ → Unread → Type 0)
    → Option (List ℕ) → List (List ℕ) → Bool → Refusal → Type 0
RefusesRun C U peer files has_lines (refusal.Unread at) =
    IsUnreadAt C U (files_of_run peer files) at
RefusesRun C U peer files has_lines refusal = (contents : List (List ℕ))
    × AreContents C (files_of_run peer files) contents
    × RefusesJobs (is_some peer) has_lines contents refusal

-- the text is the program's answer to the plan, which has one
abbrev pub AnswersOnce : (List ℕ → List ℕ → Type 0) → Once → List ℕ → Type 0
AnswersOnce C (once.Ask query db files has_lines) text =
    AnswersQuery C query has_lines db files text
AnswersOnce C (once.Summary db) text = SaysSummary text
AnswersOnce C (once.Take db files has_lines) text = AnswersTake C has_lines files text
AnswersOnce C (once.Delta db which summary) text = AnswersDelta C which summary text
AnswersOnce C (once.Scrub db which) text = SaysPages which text
AnswersOnce C (once.Arrivals db after is_all) text = SaysArrived after is_all text
AnswersOnce C (once.Service db source is_named base) text = SaysService is_named source base text
AnswersOnce C (once.Order request) text = AnswersOrder request text
AnswersOnce C (once.Relay db after is_all) text = SaysRelay after is_all text
AnswersOnce C (once.Part count place files has_lines) text =
    AnswersPart C count place has_lines files text

-- the text is the program's answer to the plan
abbrev pub AnswersPlan : (List ℕ → List ℕ → Type 0) → Plan → List ℕ → Type 0
AnswersPlan C (plan.Alone (alone.Once asked)) text = AnswersOnce C asked text
AnswersPlan C (plan.Alone (alone.Follow lines)) text = AnswersFollow C lines.file text
AnswersPlan C (plan.Alone (alone.Check judged)) text = FindsNone C judged text
AnswersPlan C (plan.Alone (alone.Number lines)) text = AnswersNumbering C lines text
AnswersPlan C (plan.Alone (alone.Combine asked)) text = AnswersCombine C asked text
AnswersPlan C (plan.Alone (alone.Split asked)) text = AnswersSplit C asked text
AnswersPlan C (plan.Run run) text = AnswersRun C run.peer run.files run.has_lines text

-- this is why the program's plan, which would have one answer, has none
abbrev pub RefusesOnce : (List ℕ → List ℕ → Type 0) → (List ℕ → Unread → Type 0)
    → Once → Refusal → Type 0
RefusesOnce C U (once.Ask query db files has_lines) refusal =
    RefusesQuery C U has_lines db files refusal
RefusesOnce C U (once.Summary db) refusal = IsOfDatabase IsUntold refusal
RefusesOnce C U (once.Take db files has_lines) refusal =
    RefusesTake C U has_lines files refusal
RefusesOnce C U (once.Delta db which summary) refusal = RefusesDelta C U summary refusal
RefusesOnce C U (once.Scrub db which) refusal = IsOfDatabase IsUntold refusal
RefusesOnce C U (once.Arrivals db after is_all) refusal = IsOfDatabase IsUntold refusal
RefusesOnce C U (once.Service db source is_named base) refusal =
    IsOfDatabase IsNoOrders refusal
RefusesOnce C U (once.Order request) refusal = IsOfDatabase IsOfOrder refusal
RefusesOnce C U (once.Relay db after is_all) refusal = IsOfDatabase IsNoRows refusal
RefusesOnce C U (once.Part count place files has_lines) refusal =
    RefusesQuery C U has_lines None files refusal

-- this is why the program's plan has no answer; a stream says how it ended by itself, and so do
-- answers of parts
abbrev pub RefusesPlan : (List ℕ → List ℕ → Type 0) → (List ℕ → Unread → Type 0)
    → Plan → Refusal → Type 0
RefusesPlan C U (plan.Alone (alone.Once asked)) refusal = RefusesOnce C U asked refusal
RefusesPlan C U (plan.Alone (alone.Follow lines)) refusal = ⊥
RefusesPlan C U (plan.Alone (alone.Check judged)) refusal = RefusesCheck C U judged.files refusal
RefusesPlan C U (plan.Alone (alone.Number lines)) refusal = ⊥
RefusesPlan C U (plan.Alone (alone.Combine asked)) refusal = ⊥
RefusesPlan C U (plan.Alone (alone.Split asked)) refusal =
    RefusesQuery C U asked.has_lines None asked.files refusal
RefusesPlan C U (plan.Run run) refusal = RefusesRun C U run.peer run.files run.has_lines refusal

-- what a plan asks of a service, an order or parts is within what is allowed
abbrev pub IsAllowedOnce : Once → Type 0
IsAllowedOnce (once.Ask query db files has_lines) = Unit {0}
IsAllowedOnce (once.Summary db) = Unit {0}
IsAllowedOnce (once.Take db files has_lines) = Unit {0}
IsAllowedOnce (once.Delta db which summary) = Unit {0}
IsAllowedOnce (once.Scrub db which) = Unit {0}
IsAllowedOnce (once.Arrivals db after is_all) = Unit {0}
IsAllowedOnce (once.Service db source is_named base) = (is_filled source ≡ true)
    × (length source ≤ 1024) × IfSome base (λ n. n ≤ max_sequence)
IsAllowedOnce (once.Order request) = IsAllowedRequest request
IsAllowedOnce (once.Relay db after is_all) = Unit {0}
IsAllowedOnce (once.Part count place files has_lines) = IsCountOfParts count × IfSome place (λ i. i < count)

-- what a plan for one thread asks is within what is allowed
abbrev pub IsAllowedAlone : Alone → Type 0
IsAllowedAlone (alone.Once asked) = IsAllowedOnce asked
IsAllowedAlone (alone.Follow lines) = Unit {0}
IsAllowedAlone (alone.Check judged) = Unit {0}
IsAllowedAlone (alone.Number lines) = Unit {0}
IsAllowedAlone (alone.Combine asked) = Unit {0}
IsAllowedAlone (alone.Split asked) = IsCountOfParts asked.count

-- what any plan of the program asks is within what is allowed
abbrev pub IsAllowedPlan : Plan → Type 0
IsAllowedPlan (plan.Alone asked) = IsAllowedAlone asked
IsAllowedPlan (plan.Run run) = AreFew (is_some run.peer) (length run.files)
