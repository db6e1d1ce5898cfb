use Rattle.std.proofs.Common.{true≢false, rules, sym, ap, subst, ◌∙◌}
use Rattle.coverage.specs.Intervals.{rises_from}
use Rattle.coverage.specs.steps.Starts.{IsLastUpTo, NoneUpTo}
use Rattle.coverage.proofs.CoversLemmas.{covers_none, covers_more, covers_all, uncovered_start, uncovered_end}
use Rattle.coverage.proofs.intervals.Intervals.covers.Goals as goal

pub loop-first-init : goal.loop-first-init
loop-first-init c = covers_none c.args.self.now c.args.other.now _ (ap (rises_from 1) (sym c.other.view_is) ∙ c.other.invariant) (c.into_iter-first-iterator.ensures.into_iter_gives.0 ∙ c.other.view_is)

pub returns-in_default : goal.returns-in_default
returns-in_default c = (
  λ t. absurd (true≢false (sym t)),
  λ all. absurd (uncovered_start c.args.self.now c.args.other.now _ (c.in-Some.first.now, c.in-Some.last.now) _ (ap (rises_from 1) (sym c.self.view_is) ∙ c.self.invariant) c.loop-first.invariant c.in-Some.ensures.steps (subst (λ l. NoneUpTo l c.in-Some.first.now) c.self.view_is c.in_default.ensures) all),
)

pub returns-then-end-last : goal.returns-then-end-last
returns-then-end-last c = (
  λ t. absurd (true≢false (sym t)),
  λ all. absurd (uncovered_end c.args.self.now c.args.other.now _ (c.in-Some.first.now, c.in-Some.last.now) _ (c.in-Some-last_up_to.field-0-0, c.in-Some-last_up_to.end) (ap (rises_from 1) (sym c.self.view_is) ∙ c.self.invariant) c.loop-first.invariant c.in-Some.ensures.steps (subst (λ l. IsLastUpTo l c.in-Some.first.now (c.in-Some-last_up_to.field-0-0, c.in-Some-last_up_to.end)) c.self.view_is c.in-Some-last_up_to.ensures) c.if-end-last.true all),
)

pub loop-first-preserved : goal.loop-first-preserved
loop-first-preserved c =
    covers_more c.args.self.now c.args.other.now _ (c.in-Some.first.now, c.in-Some.last.now) _ (c.in-Some-last_up_to.field-0-0, c.in-Some-last_up_to.end) c.loop-first.invariant c.in-Some.ensures.steps (subst (λ l. IsLastUpTo l c.in-Some.first.now (c.in-Some-last_up_to.field-0-0, c.in-Some-last_up_to.end)) c.self.view_is c.in-Some-last_up_to.ensures) c.if-end-last.false

pub returns : goal.returns
returns c = (λ _. covers_all c.args.self.now c.args.other.now _ c.loop-first.invariant c.in-None.ensures.steps.0, λ _. search rules)
