use Rattle.std.proofs.Common.{◌≡◌, ◌∙◌, ◌<◌, Option, Some, None, IfNone, IfSome, ap, arith, subst, sym}
use Rattle.attributes.specs.Event.{EventValue, source_of}
use Rattle.attributes.specs.Sequence.{max_sequence}
use Rattle.numbers.specs.Counts.{next}
use Rattle.numbers.proofs.UncountedLemmas.{its_own}
use Rattle.numbers.proofs.count.next_event.Goals as goal

of_some : {X : Type 0} (o : Option X) (x : X) (P : X → Type 0) → o ≡ Some x → IfSome o P → P x
of_some o x P is h = subst (λ q. IfSome q P) is h

of_none : {X : Type 0} (o : Option X) (P : Type 0) → o ≡ None → IfNone o P → P
of_none o P is h = subst (λ q. IfNone q P) is h

pub returns-in_default-clause-none : goal.returns-in_default-clause-none
returns-in_default-clause-none c e n bare numbered is = of_none _ _ c.in_default.is c.in_ok-found.ensures.none e n bare numbered

pub returns-in_default-next_of-clause-none : goal.returns-in_default-next_of-clause-none
returns-in_default-next_of-clause-none c e n bare numbered is =
    let own = of_some _ c.in-Some.event _ c.in-Some.is c.in_ok-found.ensures.bare in
    let counts = c.args.counted.now in
    let two = its_own e c.in-Some.event c.args.row.now n c.number.result own.0 (own.1 c.number.result c.number.ensures) bare numbered in
    let over : max_sequence < next counts (source_of c.in-Some.event) = subst (λ s. max_sequence < next counts s) c.source.ensures.value c.in_default-next_of.ensures in
    let its : c.number.result ≡ next counts (source_of c.in-Some.event) = two.1 ∙ is ∙ ap (λ (f : EventValue). next counts (source_of f)) (sym two.0) in
    omega (arith, over, its, c.number-own.ensures.value, c.number-own.ensures.high)

pub returns-then-own-number-clause-none : goal.returns-then-own-number-clause-none
returns-then-own-number-clause-none c e n bare numbered is =
    let own = of_some _ c.in-Some.event _ c.in-Some.is c.in_ok-found.ensures.bare in
    let counts = c.args.counted.now in
    let two = its_own e c.in-Some.event c.args.row.now n c.number.result own.0 (own.1 c.number.result c.number.ensures) bare numbered in
    let next_one : c.in-Some-next_of.next ≡ next counts (source_of c.in-Some.event) = c.in-Some-next_of.ensures ∙ ap (next counts) c.source.ensures.value in
    let its : c.number.result ≡ next counts (source_of c.in-Some.event) = two.1 ∙ is ∙ ap (λ (f : EventValue). next counts (source_of f)) (sym two.0) in
    omega (arith, next_one, its, c.number-own.ensures.value, c.number-2.ensures.value, c.if-own-number.true)
