-- Runs of the site machine, one after another.
use Rattle.std.specs.Prelude.{List, [], ◌∷◌, ◌++◌}
use Rattle.std.proofs.Common.{subst}
use Rattle.attributes.specs.Event.{EventValue}
use Rattle.site.specs.Machine.{Runs, arrivals_after}
use Rattle.site.specs.declared.call.Call.{Call}

pub runs-append : (A B C : List EventValue) (m n : List Call) → Runs A m B → Runs B n C
    → Runs A (m ++ n) C
runs-append A B C [] n first then = subst (λ z. Runs z n C) first then
runs-append A B C (c ∷ cs) n first then =
    (first.0, runs-append (arrivals_after A c) B C cs n first.1 then)
