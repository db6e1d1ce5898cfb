-- The commands of the program, as clap's rule reads them.
use Rattle.std.specs.Prelude.{List, ℕ, [], ◌∷◌, codes, true, Err, Ok, Result, Some}
use Rattle.clap.specs.Words.{App, Rule, app_of, new_app, new_rule, with_rule}
use Rattle.clap.specs.declared.builder.command.Command as clap
use Rattle.clap.specs.declared.builder.action.ArgAction.TheVariants.{Append, SetTrue}
use Rattle.command_words.specs.declared.command.Command.{Command}
use Rattle.command_words.specs.declared.command.Command.TheVariants.{Arrivals, Ask, Check, Combine, Delta, Follow, Number, Order, Part, Relay, Run, Scrub, Service, Summary, Take}
use Rattle.views.specs.declared.query.Query.TheVariants.{Conflicts, Cover, Days, Gaps, Kinds, Latest, Shown}

-- the word of a command on the command line
abbrev pub word_of : Command → List ℕ
word_of (Ask Cover) = codes "cover"
word_of (Ask Gaps) = codes "gaps"
word_of (Ask Shown) = codes "shown"
word_of (Ask Latest) = codes "latest"
word_of (Ask Kinds) = codes "kinds"
word_of (Ask Days) = codes "days"
word_of (Ask Conflicts) = codes "conflicts"
word_of Check = codes "check"
word_of Summary = codes "summary"
word_of Take = codes "take"
word_of Follow = codes "follow"
word_of Delta = codes "delta"
word_of Scrub = codes "scrub"
word_of Arrivals = codes "arrivals"
word_of Run = codes "run"
word_of Service = codes "service"
word_of Order = codes "order"
word_of Relay = codes "relay"
word_of Number = codes "number"
word_of Part = codes "part"
word_of Combine = codes "combine"

-- ---- the arguments

-- clap's rule for a word of the command line at its place, required
abbrev pub place_rule : List ℕ → Rule
place_rule id = record (new_rule id) { value_names = 1; required = true }

-- clap's rule for `FILE..`, one or more
abbrev pub files_rule : Rule
files_rule = record (place_rule (codes "file")) { action = Some Append }

-- clap's rule for `FILE..`, or none
abbrev pub question_files_rule : Rule
question_files_rule = record (new_rule (codes "file")) { value_names = 1; action = Some Append }

-- clap's rule for `FILE`, standard input where it isn't given
abbrev pub lines_rule : Rule
lines_rule = record (new_rule (codes "file")) { value_names = 1; defaults = codes "-" ∷ [] }

-- clap's rule for `--NAME VALUE`
abbrev pub option_rule : List ℕ → Rule
option_rule name = record (new_rule name) { long = Some name; value_names = 1 }

-- clap's rule for `--cover FILE`, any number of times
abbrev pub covers_rule : Rule
covers_rule = record (option_rule (codes "cover")) { action = Some Append }

-- clap's rule for `--NAME VALUE`, required
abbrev pub needed_rule : List ℕ → Rule
needed_rule name = record (option_rule name) { required = true }

-- clap's rule for `--NAME`
abbrev pub flag_rule : List ℕ → Rule
flag_rule name = record (new_rule name) { long = Some name; action = Some SetTrue }

-- clap's rule for `--NAME VALUE`, with this value where it isn't given
abbrev pub default_rule : List ℕ → List ℕ → Rule
default_rule name value = record (option_rule name) { defaults = value ∷ [] }

-- clap's rule for `--from N`, from the beginning where it isn't given
abbrev pub from_rule : Rule
from_rule = default_rule (codes "from") (codes "0")

-- clap's rule for `--wait SECONDS`, no time where it isn't given
abbrev pub wait_rule : Rule
wait_rule = default_rule (codes "wait") (codes "0")

-- ---- the commands

-- a command that was built, as clap's rule reads it; where none was, one without words
abbrev pub app_in : {E : Type 0} → Result clap.Command E → App
app_in (Ok built) = app_of built
app_in (Err e) = new_app []

-- clap's rule for the command's word, and `--db DB`
abbrev pub with_db : Command → App
with_db command = with_rule (new_app (word_of command)) (needed_rule (codes "db"))

-- clap's rule for the command's word, `--db DB` or none, `--lines`, and `FILE..` or none
abbrev pub with_any : Command → App
with_any command = with_rule (with_rule (with_rule (new_app (word_of command))
    (option_rule (codes "db"))) (flag_rule (codes "lines"))) question_files_rule

-- clap's rule for a command's word and the arguments that not every one has
abbrev pub own_app : Command → App
own_app (Ask query) = with_any (Ask query)
own_app Check = with_rule (with_rule (with_rule (with_rule (new_app (word_of Check))
    (option_rule (codes "db"))) (flag_rule (codes "lines"))) (flag_rule (codes "numbers")))
    question_files_rule
own_app Summary = with_db Summary
own_app Take = with_rule (with_rule (with_db Take) (flag_rule (codes "lines"))) files_rule
own_app Follow = with_rule (with_db Follow) lines_rule
own_app Delta = with_rule (with_rule (with_rule (with_db Delta) from_rule)
    (flag_rule (codes "all"))) (place_rule (codes "summary"))
own_app Scrub = with_rule (with_rule (with_db Scrub) from_rule) (flag_rule (codes "all"))
own_app Arrivals =
    with_rule (with_rule (with_db Arrivals) (needed_rule (codes "after"))) (flag_rule (codes "all"))
own_app Run = with_rule (with_rule (with_rule (with_db Run) (option_rule (codes "peer")))
    (flag_rule (codes "lines"))) files_rule
own_app Service = with_rule (with_rule (with_db Service)
    (default_rule (codes "source") (codes "/orders"))) (option_rule (codes "base"))
own_app Order = with_rule (with_rule (with_rule (with_rule (with_db Order)
    (default_rule (codes "source") (codes "/orders"))) (needed_rule (codes "at")))
    (place_rule (codes "action"))) (place_rule (codes "order"))
own_app Relay =
    with_rule (with_rule (with_db Relay) (needed_rule (codes "after"))) (flag_rule (codes "all"))
own_app Number = with_rule (with_rule (with_rule (with_db Number) (option_rule (codes "aside")))
    (default_rule (codes "base") (codes "0"))) lines_rule
own_app Part = with_rule (with_rule (with_rule (with_rule (with_rule (new_app (word_of Part))
    (needed_rule (codes "of"))) (option_rule (codes "part"))) (option_rule (codes "into")))
    (flag_rule (codes "lines"))) files_rule
own_app Combine = with_rule (with_rule (with_rule (new_app (word_of Combine)) covers_rule)
    (place_rule (codes "question"))) files_rule

-- clap's rule for a command's word and its arguments
abbrev pub app_for : Command → App
app_for command = with_rule (own_app command) wait_rule
