-- Readings of the service's rows, one after another.
use Rattle.std.proofs.Common.{◌≡◌, ℕ, List, IsTrue, refl, sym, ap, subst, ◌∙◌, arith}
use Rattle.sqlite.specs.State.{State, HasCleanDisk}
use Rattle.outbox.specs.Order.{Accepted}
use Rattle.outbox.specs.Service.{IsService}
use Rattle.outbox.specs.Call.{IsServiceReading}

pub same_none : (a : State) → IsServiceReading a a
same_none a = record { clean = omega arith; was_open = λ clean still. still; same = λ clean still l has. (refl, refl) }

pub same_then : (a b c : State) → IsServiceReading a b → IsServiceReading b c → IsServiceReading a c
same_then a b c h k = record {
  clean = omega (arith, h.clean, k.clean);
  was_open = λ clean still. h.was_open (omega (arith, clean, k.clean)) (k.was_open clean still);
  same = λ clean still l has.
      let first = h.same (omega (arith, clean, k.clean)) (k.was_open clean still) l has in
      let second = k.same clean still l (ap (λ db. db.schema) first.0 ∙ has) in
      (second.0 ∙ first.0, second.1 ∙ first.1);
}

-- the service is there after a reading
pub service_then : (a b : State) (source : List ℕ) (base : ℕ) (commands : List Accepted) → IsServiceReading a b → HasCleanDisk b → IsTrue b.is_open → IsService a.now source base commands → IsService b.now source base commands
service_then a b source base commands h clean opened is = subst (λ db. IsService db source base commands) (sym (h.same clean opened is.layout is.schema).0) is
