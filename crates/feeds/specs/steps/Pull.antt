-- What a pull has brought on its way.
use Rattle.std.specs.Prelude.{◌≡◌, ◌⊎◌, ◌+◌, ◌≤◌, ℕ, List, [], ◌∷◌, length}
use Rattle.std.specs.Prelude.{Option, None, Some, Result, Ok, Err}
use Rattle.attributes.specs.Event.{EventValue}
use Rattle.coverage.specs.Summary.{Sources}
use Rattle.site.specs.Desk.{refused}
use Rattle.site.specs.Machine.{call}
use Rattle.site.specs.Page.{max_page}
use Rattle.site.specs.declared.call.Call.{Call}
use Rattle.site.specs.declared.call.Command.TheVariants as command
use Rattle.site.specs.declared.call.Reply.TheVariants.{Paged, Summed}
use Rattle.site.specs.declared.desk.DeskFault.{DeskFault}
use Rattle.feeds.specs.Pull.{ArePages, EndsEmpty, replied}
use Rattle.feeds.specs.Report.{AreAnswered, AreTakes, EndsEarly, Handles, HasCauseIf, fresh_of}
use Rattle.feeds.specs.Report.{handled, repeated_of}
use Rattle.feeds.specs.declared.report.WorkerEnd.{WorkerEnd}
use Rattle.feeds.specs.declared.report.WorkerEnd.TheVariants.{Done, GateShut, OutOfMemory}
use Rattle.feeds.specs.declared.report.Tally.{Tally}
use Rattle.feeds.specs.steps.Tally.{Counted}

-- a pull's call for the summary: this is told, or the gate was shut before, or it was refused
abbrev pub SumsUp : List Call → Result Sources WorkerEnd → Type 0
SumsUp n (Ok peer) = n ≡ call command.Summary (Summed peer) ∷ []
SumsUp n (Err OutOfMemory) = (fault : DeskFault) × (n ≡ call command.Summary (refused fault) ∷ [])
SumsUp n (Err GateShut) = n ≡ []
SumsUp n (Err _) = ⊥

-- a pull's call for a page: this is told, or the gate was shut before, or it was refused
abbrev pub Pages : Sources → ℕ → List Call → Result (List EventValue) WorkerEnd → Type 0
Pages peer place m (Ok events) =
    (m ≡ call (command.DeltaPage peer place max_page) (Paged events) ∷ [])
    × (length events ≤ max_page)
Pages peer place m (Err OutOfMemory) = (fault : DeskFault)
    × (m ≡ call (command.DeltaPage peer place max_page) (refused fault) ∷ [])
Pages peer place m (Err GateShut) = m ≡ []
Pages peer place m (Err _) = ⊥

-- two tallies of a worker have the same counts of new, repeated and refused events
abbrev pub HasSameCounts : Tally → Tally → Type 0
HasSameCounts t u = (u.fresh ≡ t.fresh) × (u.repeated ≡ t.repeated) × (u.refused ≡ t.refused)

-- a pull moved a page, whole if nothing ended the worker
pub record MovesPage (peer : Sources) (m n : List Call) (t u : Tally) (o : Option WorkerEnd)
    : Type 0 where
  pub pages : ArePages peer (t.fresh + t.repeated) m
  pub handles : Handles n (replied m)
  pub counted : Counted n t u
  pub most : length (replied m) ≤ max_page
  pub whole : o ≡ None → handled n ≡ replied m
  pub ended : (e : WorkerEnd) → o ≡ Some e → (e ≡ Done) ⊎ EndsEarly e
  pub cause : HasCauseIf m o × HasCauseIf n o
  pub done : o ≡ Some Done → (handled n ≡ replied m) × (replied m ≡ []) × EndsEmpty m

-- a pull on its way, after these calls
pub record Pulling (peer : Sources) (m n : List Call) (t : Tally) : Type 0 where
  pub pages : ArePages peer 0 m
  pub takes : AreTakes n
  pub order : handled n ≡ replied m
  pub fresh : t.fresh ≡ fresh_of n
  pub repeated : t.repeated ≡ repeated_of n
  pub all : fresh_of n + repeated_of n ≡ length (handled n)
  pub refused : t.refused ≡ 0
  pub answered : AreAnswered m × AreAnswered n
