use Rattle.std.proofs.Common.{refl, subst}
use Rattle.std.proofs.lemmas.Map.Keys.{ge_from_not_lt}
use Rattle.coverage.specs.Intervals.{IsGreatest}
use Rattle.coverage.proofs.MapLemmas.{found-fits, greatest_last}
use Rattle.coverage.proofs.intervals.Intervals.greatest.Goals as goal

pub returns-in-Some-clause-value : goal.returns-in-Some-clause-value
returns-in-Some-clause-value c =
    let last = c.in-Some.ensures in
    subst (λ l. IsGreatest l c.in-Some.last.now) c.self.view_is (greatest_last c.self.inside.starts.entries c.in-Some.field-0-0.now c.in-Some.last.now c.self.invariant last.value (λ a b f. ge_from_not_lt _ _ (last.greatest a (rw f refl))))

pub returns-in-Some-clause-bounded : goal.returns-in-Some-clause-bounded
returns-in-Some-clause-bounded c = (found-fits 1 c.self.inside.starts.entries c.in-Some.field-0-0.now c.in-Some.last.now c.self.invariant c.in-Some.ensures.value).2
