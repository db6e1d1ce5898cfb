-- What a worker that asks has been answered on its way.
use Rattle.std.specs.Prelude.{◌≡◌, ◌⊎◌, List, [], ◌∷◌, ◌++◌, Option, None, Some}
use Rattle.site.specs.Machine.{call}
use Rattle.site.specs.declared.call.Call.{Call}
use Rattle.site.specs.declared.call.Command.TheVariants as command
use Rattle.site.specs.declared.call.Reply.{Reply}
use Rattle.site.specs.declared.call.Reply.TheVariants.{Answered}
use Rattle.views.specs.declared.query.Answer.{Answer}
use Rattle.views.specs.declared.query.Query.{Query}
use Rattle.feeds.specs.declared.report.WorkerEnd.{WorkerEnd}
use Rattle.feeds.specs.declared.report.WorkerEnd.TheVariants.{GateShut, OutOfMemory}

-- the worker stopped at this question: before its call, or after it, which was refused or whose
-- answer there was no memory to keep
abbrev pub StopsAt : Query → List Call → List Answer → List Answer → WorkerEnd → Type 0
StopsAt query m old new ended = (new ≡ old) × (((ended ≡ GateShut) × (m ≡ []))
    ⊎ ((ended ≡ OutOfMemory) × ((reply : Reply) × (m ≡ call (command.Query query) reply ∷ []))))

-- the worker asked one question and its answer was kept, if nothing ended it
pub record AsksOne (query : Query) (m : List Call) (old new : List Answer) (o : Option WorkerEnd)
    : Type 0 where
  pub goes_on : o ≡ None → (answer : Answer)
      × (m ≡ call (command.Query query) (Answered answer) ∷ []) × (new ≡ old ++ answer ∷ [])
  pub stops : (ended : WorkerEnd) → o ≡ Some ended → StopsAt query m old new ended
