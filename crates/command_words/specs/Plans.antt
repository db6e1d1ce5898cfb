-- What the words after the program's name ask for.
use Rattle.std.specs.Prelude.{◌≡◌, ◌≢◌, ◌≤◌, ◌<◌, ◌+◌, ◌^◌, ◌⊎◌, Bool, ℕ, List, [], true, false, codes, find, length, Option, None, Some, option_and_then, slice_get, unwrap_or, if◌then◌else◌}
use Rattle.std.specs.Option.{is_some}
use Rattle.std.specs.Str.{bytes_eq}
use Rattle.std.specs.Str.Parse.{IsNumeral, digits_value}
use Rattle.clap.specs.Words.{Row, Text, all_of, fault_of, first_of, matches_of}
use Rattle.clap.specs.declared.parser.matches.ValueSource.{ValueSource}
use Rattle.clap.specs.declared.parser.matches.ValueSource.TheVariants.{CommandLine, DefaultValue}
use Rattle.attributes.specs.Character.{is_filled}
use Rattle.attributes.specs.Sequence.{max_sequence}
use Rattle.attributes.specs.Time.{time_day}
use Rattle.command_words.specs.declared.command.Command.{Command}
use Rattle.command_words.specs.declared.command.Command.TheVariants as command
use Rattle.command_words.specs.declared.request.Action.{Action}
use Rattle.command_words.specs.declared.request.Action.TheVariants as action
use Rattle.command_words.specs.declared.request.Request.{Request}
use Rattle.command_words.specs.declared.request.Invocation.{Invocation}
use Rattle.command_words.specs.declared.request.Pages.{Pages}
use Rattle.command_words.specs.declared.request.Pages.TheVariants as pages
use Rattle.command_words.specs.declared.request.Plan.{Plan}
use Rattle.command_words.specs.declared.request.Plan.TheVariants as plan
use Rattle.command_words.specs.declared.request.Alone.TheVariants as alone
use Rattle.command_words.specs.declared.request.Once.{Once}
use Rattle.command_words.specs.declared.request.Once.TheVariants as once
use Rattle.command_words.specs.declared.fault.Faulty.{Faulty}
use Rattle.command_words.specs.declared.fault.Faulty.TheVariants as faulty
use Rattle.command_words.specs.Commands.{app_for, word_of}

-- the command of the command line of a plan with one answer
abbrev pub once_of : Once → Command
once_of (once.Ask query db files has_lines) = command.Ask query
once_of (once.Summary db) = command.Summary
once_of (once.Take db files has_lines) = command.Take
once_of (once.Delta db which summary) = command.Delta
once_of (once.Scrub db which) = command.Scrub
once_of (once.Arrivals db after is_all) = command.Arrivals
once_of (once.Service db source is_named base) = command.Service
once_of (once.Order request) = command.Order
once_of (once.Relay db after is_all) = command.Relay
once_of (once.Part count part files has_lines) = command.Part

-- the command of the command line of a plan
abbrev pub command_of : Plan → Command
command_of (plan.Alone (alone.Once asked)) = once_of asked
command_of (plan.Alone (alone.Follow lines)) = command.Follow
command_of (plan.Alone (alone.Check judged)) = command.Check
command_of (plan.Alone (alone.Number lines)) = command.Number
command_of (plan.Alone (alone.Combine asked)) = command.Combine
command_of (plan.Alone (alone.Split asked)) = command.Part
command_of (plan.Run files) = command.Run

-- ---- values

-- the command line's text is one to twenty ASCII digits, and writes a number that fits 64 bits
pub record IsNumber (text : List ℕ) (n : ℕ) : Type 0 where
  pub short : length text ≤ 20
  pub digits : IsNumeral 10 text
  pub value : digits_value 10 text ≡ n
  pub fits : n < 2 ^ 64

-- the number of an order on the command line: 1 to 2^63-1
pub record IsOrderNumber (text : List ℕ) (n : ℕ) : Type 0 where
  pub is_number : IsNumber text n
  pub low : 1 ≤ n
  pub high : n ≤ max_sequence

-- the number on a command line before a service's first row or a source's first event: up to 2^63-1
pub record IsBaseNumber (text : List ℕ) (n : ℕ) : Type 0 where
  pub is_number : IsNumber text n
  pub high : n ≤ max_sequence

-- for how many seconds a database is waited for, by the command line: a day at most
pub record IsWait (text : List ℕ) (n : ℕ) : Type 0 where
  pub is_number : IsNumber text n
  pub high : n ≤ 86400

-- how many parts a region has, by the command line
pub record IsPartCount (text : List ℕ) (n : ℕ) : Type 0 where
  pub is_number : IsNumber text n
  pub low : 1 ≤ n
  pub high : n ≤ 65536

-- the number of one of so many parts, from 0, on the command line
pub record IsPartNumber (text : List ℕ) (count i : ℕ) : Type 0 where
  pub is_number : IsNumber text i
  pub below : i < count

-- the part is the one of so many that the command line's text writes; none where there is no text
abbrev pub IsPartWritten : Option (List ℕ) → ℕ → Option ℕ → Type 0
IsPartWritten (Some text) count (Some i) = IsPartNumber text count i
IsPartWritten None count None = Unit {0}
IsPartWritten (Some text) count None = ⊥
IsPartWritten None count (Some i) = ⊥

-- the base is the number that the command line's text writes; none where there is no text
abbrev pub IsBase : Option (List ℕ) → Option ℕ → Type 0
IsBase (Some text) (Some n) = IsBaseNumber text n
IsBase None None = Unit {0}
IsBase (Some text) None = ⊥
IsBase None (Some n) = ⊥

-- the word of the command line for what is done with an order
abbrev pub action_word : Action → List ℕ
action_word action.Place = codes "place"
action_word action.Ship = codes "ship"
action_word action.Cancel = codes "cancel"

-- the command line's text is a time of RFC 3339 of at most 64 bytes
pub record IsTime (text : List ℕ) : Type 0 where
  pub short : length text ≤ 64
  pub time : time_day text ≢ None

-- the text of the command line may name the source of a service: at least one character, no control
-- character, and at most 1,024 bytes
pub record IsServiceSource (text : List ℕ) : Type 0 where
  pub short : length text ≤ 1024
  pub filled : is_filled text ≡ true

-- so many files of a run on the command line, and a peer's where there is one, are 16 at most
abbrev pub AreFew : Bool → ℕ → Type 0
AreFew has_peer files = (if has_peer then 1 + files else files) ≤ 16

-- ---- plans

-- the texts that clap matched for an argument; none where it isn't given
abbrev pub texts_in : List Row → Text → List Text
texts_in rows id = unwrap_or (all_of id rows) []

-- the text that clap matched for an argument; empty where it isn't given
abbrev pub text_in : List Row → Text → Text
text_in rows id = unwrap_or (first_of id rows) []

-- the words of the command line gave a value
abbrev pub is_of_words : Option ValueSource → Bool
is_of_words None = false
is_of_words (Some DefaultValue) = false
is_of_words (Some CommandLine) = true

-- the words of the command line gave the argument, and not its default
abbrev pub is_given : List Row → Text → Bool
is_given rows id = is_of_words (option_and_then (λ r. r.source) (find (λ r. bytes_eq r.id id) rows))

-- what a plan asks of an order has the values that clap matched for the arguments
pub record HasRequestOf (rows : List Row) (r : Request) : Type 0 where
  pub db : r.db ≡ text_in rows (codes "db")
  pub source : r.source ≡ text_in rows (codes "source")
  pub named : r.is_source_named ≡ is_given rows (codes "source")
  pub allowed : IsServiceSource r.source
  pub at : r.at ≡ text_in rows (codes "at")
  pub time : IsTime r.at
  pub action : text_in rows (codes "action") ≡ action_word r.action
  pub order : IsOrderNumber (text_in rows (codes "order")) r.order

-- the command line gave the one page that is printed, or its default, or asked for all
abbrev pub HasPages : List Row → Pages → Type 0
HasPages rows (pages.Behind n) =
    (is_given rows (codes "all") ≡ false) × IsNumber (text_in rows (codes "from")) n
HasPages rows pages.All =
    (is_given rows (codes "all") ≡ true) × (is_given rows (codes "from") ≡ false)

-- a database is given on the command line, or a file
abbrev pub IsDatabaseOrFiles : Option Text → List Text → Type 0
IsDatabaseOrFiles db files = (is_some db ≡ true) ⊎ (files ≢ [])

-- a command line's plan with one answer has the texts, and the values that they write, that were
-- matched for its arguments
abbrev pub HasTextsOnce : List Row → Once → Type 0
HasTextsOnce rows (once.Ask query db files has_lines) = (db ≡ first_of (codes "db") rows)
    × (files ≡ texts_in rows (codes "file")) × IsDatabaseOrFiles db files
    × (has_lines ≡ is_given rows (codes "lines"))
HasTextsOnce rows (once.Summary db) = db ≡ text_in rows (codes "db")
HasTextsOnce rows (once.Take db files has_lines) = (db ≡ text_in rows (codes "db"))
    × (files ≡ texts_in rows (codes "file")) × (has_lines ≡ is_given rows (codes "lines"))
HasTextsOnce rows (once.Delta db which summary) = (db ≡ text_in rows (codes "db"))
    × HasPages rows which × (summary ≡ text_in rows (codes "summary"))
HasTextsOnce rows (once.Scrub db which) =
    (db ≡ text_in rows (codes "db")) × HasPages rows which
HasTextsOnce rows (once.Arrivals db after is_all) = (db ≡ text_in rows (codes "db"))
    × IsNumber (text_in rows (codes "after")) after × (is_all ≡ is_given rows (codes "all"))
HasTextsOnce rows (once.Service db source is_named base) = (db ≡ text_in rows (codes "db"))
    × (source ≡ text_in rows (codes "source")) × (is_named ≡ is_given rows (codes "source"))
    × IsServiceSource source × IsBase (first_of (codes "base") rows) base
HasTextsOnce rows (once.Order request) = HasRequestOf rows request
HasTextsOnce rows (once.Relay db after is_all) = (db ≡ text_in rows (codes "db"))
    × IsNumber (text_in rows (codes "after")) after × (is_all ≡ is_given rows (codes "all"))
HasTextsOnce rows (once.Part count part files has_lines) =
    IsPartCount (text_in rows (codes "of")) count × IsPartWritten (first_of (codes "part") rows) count part
    × (files ≡ texts_in rows (codes "file")) × (has_lines ≡ is_given rows (codes "lines"))
    × (first_of (codes "into") rows ≡ None)

-- any plan of a command line has the texts and values that were matched for its arguments
abbrev pub HasTextsOf : List Row → Plan → Type 0
HasTextsOf rows (plan.Alone (alone.Once asked)) = HasTextsOnce rows asked
HasTextsOf rows (plan.Alone (alone.Follow lines)) =
    (lines.db ≡ text_in rows (codes "db")) × (lines.file ≡ text_in rows (codes "file"))
HasTextsOf rows (plan.Alone (alone.Check judged)) = (judged.db ≡ first_of (codes "db") rows)
    × (judged.files ≡ texts_in rows (codes "file")) × IsDatabaseOrFiles judged.db judged.files
    × (judged.has_lines ≡ is_given rows (codes "lines"))
    × (judged.is_for_number ≡ is_given rows (codes "numbers"))
HasTextsOf rows (plan.Alone (alone.Number lines)) = (lines.db ≡ text_in rows (codes "db"))
    × (lines.aside ≡ first_of (codes "aside") rows) × (lines.file ≡ text_in rows (codes "file"))
    × IsBaseNumber (text_in rows (codes "base")) lines.base
HasTextsOf rows (plan.Alone (alone.Combine asked)) =
    (text_in rows (codes "question") ≡ word_of (command.Ask asked.query))
    × (asked.covers ≡ texts_in rows (codes "cover")) × (asked.files ≡ texts_in rows (codes "file"))
HasTextsOf rows (plan.Alone (alone.Split asked)) =
    IsPartCount (text_in rows (codes "of")) asked.count
    × (first_of (codes "into") rows ≡ Some asked.prefix)
    × (asked.files ≡ texts_in rows (codes "file"))
    × (asked.has_lines ≡ is_given rows (codes "lines"))
    × (first_of (codes "part") rows ≡ None)
HasTextsOf rows (plan.Run files) =
    (files.db ≡ text_in rows (codes "db")) × (files.peer ≡ first_of (codes "peer") rows)
    × (files.files ≡ texts_in rows (codes "file"))
    × (files.has_lines ≡ is_given rows (codes "lines"))
    × AreFew (is_some files.peer) (length files.files)

-- clap's rule for the command finds no fault in the words, and the plan is that command with the
-- texts that the rule matches
pub record IsPlanFor (words : List Text) (command : Command) (plan : Plan) : Type 0 where
  pub is_command : command_of plan ≡ command
  pub faultless : fault_of (app_for command) words ≡ []
  pub texts : HasTextsOf (matches_of (app_for command) words) plan

-- the first word is that of the plan's command, and the words are a plan for it
abbrev pub IsPlan : List Text → Plan → Type 0
IsPlan words plan = (slice_get words 0 ≡ Some (word_of (command_of plan)))
    × IsPlanFor words (command_of plan) plan

-- the words are a plan for the command, and say for how long it waits
pub record IsInvocationFor (words : List Text) (command : Command) (asked : Invocation) : Type 0 where
  pub is_plan : IsPlanFor words command asked.plan
  pub wait : IsWait (text_in (matches_of (app_for command) words) (codes "wait")) asked.wait

-- the first word is that of the plan's command, and the words are a plan for it and say for how long
-- it waits
pub record IsInvocation (words : List Text) (asked : Invocation) : Type 0 where
  pub is_word : slice_get words 0 ≡ Some (word_of (command_of asked.plan))
  pub is_for : IsInvocationFor words (command_of asked.plan) asked

-- the refusal is want of memory, or there is this fault in the words of the command line
abbrev pub Blames : Type 0 → Faulty → Type 0
Blames fault faulty.OutOfMemory = Unit {0}
Blames fault (faulty.Words text is_help) = fault

-- no plan of the command has what clap matched of the words
abbrev pub HaveNoPlan : List Row → Command → Type 0
HaveNoPlan rows command = (plan : Plan) → command_of plan ≡ command → HasTextsOf rows plan → ⊥

-- there is nothing that a command line asks for: the first word is no command, the words are at
-- fault by clap's rule for the command, or one of their values isn't allowed
abbrev pub AreFaulty : List Text → Type 0
AreFaulty words = (asked : Invocation) → IsInvocation words asked → ⊥

-- the number of the reason why words of the command line are faulty, from 1
abbrev pub number_of_reason : Faulty → ℕ
number_of_reason faulty.OutOfMemory = 1
number_of_reason (faulty.Words text is_help) = 2
