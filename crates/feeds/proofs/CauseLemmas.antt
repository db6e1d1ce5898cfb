-- Why a worker ended: which of its calls were refused.
use Rattle.std.proofs.Common.{◌≡◌, List, [], ◌∷◌, ◌++◌, refl, sym, ap, subst, ◌∙◌, append_assoc, inl, inr}
use Rattle.std.specs.Prelude.{Option, Some, None}
use Rattle.site.specs.Desk.{refused}
use Rattle.site.specs.Machine.{call}
use Rattle.site.specs.declared.call.Call.{Call}
use Rattle.site.specs.declared.call.Command.{Command}
use Rattle.site.specs.declared.call.Reply.{Reply}
use Rattle.site.specs.declared.call.Reply.TheVariants.{Answered, Paged, Refused, Summed, Took}
use Rattle.site.specs.declared.desk.DeskFault.{DeskFault}
use Rattle.site.specs.declared.desk.DeskFault.TheVariants as desk
use Rattle.feeds.specs.Report.{AreAnswered, EndsEarly, EndsRefused, HasCause, HasCauseIf, IsRefusedReply}
use Rattle.feeds.specs.declared.report.WorkerEnd.{WorkerEnd}
use Rattle.feeds.specs.declared.report.WorkerEnd.TheVariants.{BadInput, Done, GateShut, OutOfMemory}
use Rattle.feeds.specs.steps.Tally.{StopsBy}

pub answered-append : (m n : List Call) → AreAnswered m → AreAnswered n → AreAnswered (m ++ n)
answered-append [] n h k = k
answered-append (c ∷ cs) n h k = (h.0, answered-append cs n h.1 k)

refused_behind : (m n : List Call) → AreAnswered m → EndsRefused n → EndsRefused (m ++ n)
refused_behind m n h e = record {
  before = m ++ e.before;
  last = e.last;
  calls = ap (λ (z : List Call). m ++ z) e.calls ∙ sym (append_assoc m e.before (e.last ∷ []));
  answered = answered-append m e.before h e.answered;
  refused = e.refused;
}

-- the last call alone was refused
pub last_refused : (c : Call) → IsRefusedReply c.reply → EndsRefused (c ∷ [])
last_refused c r = record { before = []; last = c; calls = refl; answered = tt; refused = r }

pub refused_fault : (fault : DeskFault) → IsRefusedReply (refused fault)
refused_fault (desk.OutOfMemory taken fresh) = tt

pub early_by : (m : List Call) (e : WorkerEnd) → StopsBy m (Some e) → EndsEarly e
early_by m OutOfMemory h = tt
early_by m GateShut h = tt
early_by m Done h = h
early_by m (BadInput f) h = absurd h

pub early_if : (m : List Call) (o : Option WorkerEnd) (e : WorkerEnd) → o ≡ Some e → StopsBy m o → EndsEarly e
early_if m o e is h = early_by m e (subst (λ (z : Option WorkerEnd). StopsBy m z) is h)

-- a worker whose calls were answered so far, and then stopped so
pub stop_behind : (m n : List Call) (e : WorkerEnd) → AreAnswered m → StopsBy n (Some e) → HasCause (m ++ n) e
stop_behind m n OutOfMemory h k = inr (refused_behind m n h k, refl)
stop_behind m n GateShut h k = inl (answered-append m n h k)
stop_behind m n Done h k = absurd k
stop_behind m n (BadInput f) h k = absurd k

pub cause_behind : (m n : List Call) (e : WorkerEnd) → AreAnswered m → HasCause n e → HasCause (m ++ n) e
cause_behind m n e h (inl k) = inl (answered-append m n h k)
cause_behind m n e h (inr k) = inr (refused_behind m n h k.0, k.1)

pub cause_if : (n : List Call) (o : Option WorkerEnd) → StopsBy n o → HasCauseIf n o
cause_if n None h = h
cause_if n (Some e) h = stop_behind [] n e tt h

pub answered_if : (n : List Call) (o : Option WorkerEnd) → AreAnswered n → HasCauseIf n o
answered_if n None h = h
answered_if n (Some e) h = inl h

-- whatever the reply was, the one call has a cause where memory was wanted
pub one_cause : (command : Command) (reply : Reply) → HasCause (call command reply ∷ []) OutOfMemory
one_cause command (Took fresh repeated) = inl ((λ r. r), tt)
one_cause command (Summed summary) = inl ((λ r. r), tt)
one_cause command (Paged events) = inl ((λ r. r), tt)
one_cause command (Answered answer) = inl ((λ r. r), tt)
one_cause command (Refused taken fresh) = inr (last_refused (call command (Refused taken fresh)) tt, refl)
