-- What a worker that asks questions was answered.
use Rattle.std.specs.Prelude.{◌≡◌, ◌⊎◌, List, [], ◌∷◌, ◌++◌, length, map}
use Rattle.site.specs.declared.call.Call.{Call}
use Rattle.site.specs.declared.call.Command.{Command}
use Rattle.site.specs.declared.call.Command.TheVariants as command
use Rattle.site.specs.declared.call.Reply.{Reply}
use Rattle.site.specs.declared.call.Reply.TheVariants.{Answered}
use Rattle.views.specs.declared.query.Answer.{Answer}
use Rattle.views.specs.declared.query.Query.{Query}
use Rattle.feeds.specs.Report.{EndsEarly, HasCause}
use Rattle.feeds.specs.declared.asking.Asked.{Asked}
use Rattle.feeds.specs.declared.report.WorkerEnd.{WorkerEnd}
use Rattle.feeds.specs.declared.report.WorkerEnd.TheVariants.{Done, OutOfMemory}

-- the commands of a worker's calls
abbrev pub commands_of : List Call → List Command
commands_of [] = []
commands_of (c ∷ cs) = c.command ∷ commands_of cs

-- the answer to a worker that a reply has, where it has one
abbrev pub answers_by : Reply → List Answer
answers_by (Answered answer) = answer ∷ []
answers_by _ = []

-- the answers that the worker's calls got, in order
abbrev pub answers_of : List Call → List Answer
answers_of [] = []
answers_of (c ∷ cs) = answers_by c.reply ++ answers_of cs

-- these are the answers that a worker's calls got, but for the last one where no memory was left to
-- keep it
abbrev pub KeepsAnswers : List Call → List Answer → WorkerEnd → Type 0
KeepsAnswers m answers ended = (answers ≡ answers_of m)
    ⊎ ((ended ≡ OutOfMemory) × ((lost : Answer) × (answers ++ lost ∷ [] ≡ answers_of m)))

-- the worker's calls asked the first of the questions, in order; all of them, each with its answer,
-- where it was done
pub record Asks (queries : List Query) (m : List Call) (r : Asked) : Type 0 where
  pub asked : List Query
  pub behind : List Query
  pub split : asked ++ behind ≡ queries
  pub calls : commands_of m ≡ map command.Query asked
  pub answers : KeepsAnswers m r.answers r.ended
  pub ended : (r.ended ≡ Done) ⊎ EndsEarly r.ended
  pub cause : HasCause m r.ended
  pub done : r.ended ≡ Done → (asked ≡ queries) × (r.answers ≡ answers_of m)
      × (length r.answers ≡ length queries)
