use Rattle.std.proofs.Common.{ap, refl, subst, sym, true≢false, ◌∙◌, string_bytes}
use Rattle.coverage.specs.Intervals.{holds}
use Rattle.coverage.specs.Numbers.{AreListed, numbers_in}
use Rattle.coverage.specs.steps.Entries.{sources_in}
use Rattle.coverage.proofs.CompareLemmas.{covered_none, covered_more, covered_all, uncovered_source, uncovered_numbers}
use Rattle.coverage.proofs.numbers.Numbers.covers.Goals as goal

pub loop-source-init : goal.loop-source-init
loop-source-init c = covered_none c.args.self.now c.args.other.now _ (ap sources_in c.into_iter-source-iterator.ensures.into_iter_gives.0 ∙ c.other.view_is)

pub returns-in_default : goal.returns-in_default
returns-in_default c =
    let own = c.args.self.now in
    let source = string_bytes c.in-Some.source.now in
    let absent = ap (numbers_in own) (sym c.as_str.ensures.value) ∙ c.in_default.ensures.numbers in (
      λ t. absurd (true≢false (sym t)),
      λ all. absurd (uncovered_source own c.args.other.now _ (source, c.in-Some.numbers.now) _ (subst AreListed c.other.view_is c.other.invariant) c.loop-source.invariant (ap sources_in c.in-Some.ensures.steps) absent all),
    )

pub returns-then-not-covers : goal.returns-then-not-covers
returns-then-not-covers c =
    let own = c.args.self.now in
    let source = string_bytes c.in-Some.source.now in
    let numbers = c.in-Some-of_source.ensures.numbers ∙ ap (numbers_in own) c.as_str.ensures.value in (
      λ t. absurd (true≢false (sym t)),
      λ all. c.if-not-covers.ensures.1 (λ n t. ap (λ l. holds l n) numbers
          ∙ uncovered_numbers own c.args.other.now _ (source, c.in-Some.numbers.now) _ (subst AreListed c.other.view_is c.other.invariant) c.loop-source.invariant (ap sources_in c.in-Some.ensures.steps) all n t),
    )

pub loop-source-preserved : goal.loop-source-preserved
loop-source-preserved c =
    let own = c.args.self.now in
    let source = string_bytes c.in-Some.source.now in
    let numbers = c.in-Some-of_source.ensures.numbers ∙ ap (numbers_in own) c.as_str.ensures.value in
    covered_more own c.args.other.now _ (source, c.in-Some.numbers.now) _ (subst AreListed c.other.view_is c.other.invariant) c.loop-source.invariant (ap sources_in c.in-Some.ensures.steps)
    (λ n t. sym (ap (λ l. holds l n) numbers) ∙ c.if-not-covers.ensures.0 refl n t)

pub returns : goal.returns
returns c = (λ _. covered_all c.args.self.now c.args.other.now _ c.loop-source.invariant (ap sources_in c.in-None.ensures.steps.0), λ _. refl)
