-- What a plan names.
use Rattle.std.specs.Prelude.{ℕ, List, [], ◌∷◌, Option, None, Some, unwrap_or}
use Rattle.std.specs.Borrow.{Bor}
use Rattle.command_words.specs.declared.request.Alone.TheVariants as alone
use Rattle.command_words.specs.declared.request.Check.{Check}
use Rattle.command_words.specs.declared.request.Combine.{Combine}
use Rattle.command_words.specs.declared.request.Follow.{Follow}
use Rattle.command_words.specs.declared.request.Number.{Number}
use Rattle.command_words.specs.declared.request.Once.{Once}
use Rattle.command_words.specs.declared.request.Once.TheVariants as once
use Rattle.command_words.specs.declared.request.Plan.{Plan}
use Rattle.command_words.specs.declared.request.Plan.TheVariants as plan
use Rattle.command_words.specs.declared.request.Run.{Run}
use Rattle.command_words.specs.declared.request.Split.{Split}
use Rattle.site_commands.specs.declared.names.Names.{Names as Lent}

-- the files of a run, its peer's first, where it has one
abbrev pub files_of_run : Option (List ℕ) → List (List ℕ) → List (List ℕ)
files_of_run None files = files
files_of_run (Some peer) files = peer ∷ files

-- what an error line names: a database, empty if there is none; an order, 0 if none; and files
pub record Names : Type 0 where
  pub db : List ℕ
  pub order : ℕ
  pub files : List (List ℕ)

-- what an error line names of a plan with one answer
abbrev pub of_once : Once → Names
of_once (once.Ask query db files has_lines) = record { db = unwrap_or db []; order = 0; files = files }
of_once (once.Summary db) = record { db = db; order = 0; files = [] }
of_once (once.Take db files has_lines) = record { db = db; order = 0; files = files }
of_once (once.Delta db which name) = record { db = db; order = 0; files = name ∷ [] }
of_once (once.Scrub db which) = record { db = db; order = 0; files = [] }
of_once (once.Arrivals db after is_all) = record { db = db; order = 0; files = [] }
of_once (once.Service db source is_named base) = record { db = db; order = 0; files = [] }
of_once (once.Order request) = record { db = request.db; order = request.order; files = [] }
of_once (once.Relay db after is_all) = record { db = db; order = 0; files = [] }
of_once (once.Part count place files has_lines) = record { db = []; order = 0; files = files }

-- the names that error lines of `follow` tell: its database and its file
abbrev pub names_of_follow : Follow → Names
names_of_follow lines = record { db = lines.db; order = 0; files = lines.file ∷ [] }

-- what an error line names of a stream of lines that are numbered
abbrev pub of_number : Number → Names
of_number lines = record { db = lines.db; order = 0; files = lines.file ∷ [] }

-- what an error line names of `check` where it is refused, which is for a file alone
abbrev pub of_check : Check → Names
of_check judged = record { db = []; order = 0; files = judged.files }

-- what an error line names of the answers of parts
abbrev pub of_combine : Combine → Names
of_combine asked = record { db = []; order = 0; files = asked.files }

-- what an error line names of a plan of parts where it is refused for a file that it reads
abbrev pub of_split : Split → Names
of_split asked = record { db = []; order = 0; files = asked.files }

-- what an error line names of a run, its peer's file first
abbrev pub of_run : Run → Names
of_run run = record { db = run.db; order = 0; files = files_of_run run.peer run.files }

-- what an error line names of a plan
abbrev pub of_plan : Plan → Names
of_plan (plan.Alone (alone.Once asked)) = of_once asked
of_plan (plan.Alone (alone.Follow lines)) = names_of_follow lines
of_plan (plan.Alone (alone.Check judged)) = of_check judged
of_plan (plan.Alone (alone.Number lines)) = of_number lines
of_plan (plan.Alone (alone.Combine asked)) = of_combine asked
of_plan (plan.Alone (alone.Split asked)) = of_split asked
of_plan (plan.Run run) = of_run run

-- the files that an error line names, one of them before the others where there is one
abbrev first_of : Option (Bor (List ℕ)) → List (List ℕ) → List (List ℕ)
first_of None files = files
first_of (Some first) files = first.now ∷ files

-- the names of a plan that are lent to an error line
abbrev pub lent : Lent → Names
lent names = record {
  db = names.db.now;
  order = names.order;
  files = first_of names.first names.files.now;
}
