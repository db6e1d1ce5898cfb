use Rattle.std.proofs.Common.{◌≡◌, ℕ, ◌≤◌, false, refl, subst, arith}
use Rattle.std.specs.Ordering.{nat_cmp, is_gt}
use Rattle.std.proofs.lemmas.Bool.Decides.{nat_tests}
use Rattle.std.proofs.lemmas.Map.Keys.{le_from_not_gt}
use Rattle.coverage.specs.Intervals.{AllStartBefore, IsNextSpan}
use Rattle.coverage.proofs.LookLemmas.{next_span_is, all_start_before}
use Rattle.coverage.proofs.intervals.Intervals.next_span.Goals as goal

not_gt_from_le : (a n : ℕ) → a ≤ n → is_gt (nat_cmp a n) ≡ false
not_gt_from_le a n h = grind (arith, nat_tests)

pub returns-in-Some : goal.returns-in-Some
returns-in-Some c =
    let inside = rw c.in-Some.ensures.steps at (c.range.ensures.in_range tt).1 in
    let least = rw c.in-Some.ensures.steps at (c.range.ensures.in_range tt).2 in
    subst (λ l. IsNextSpan l c.args.from (c.in-Some.first.now, c.in-Some.last.now)) c.self.view_is (next_span_is c.self.inside.starts.entries c.args.from (c.in-Some.first.now, c.in-Some.last.now) c.self.invariant inside.1 (le_from_not_gt _ _ inside.0.0)
    (λ a b f low. le_from_not_gt _ _ (least a (not_gt_from_le _ _ low, tt) (rw f refl))))

pub returns-in-None : goal.returns-in-None
returns-in-None c =
    subst (λ l. AllStartBefore l c.args.from) c.self.view_is (all_start_before c.self.inside.starts.entries c.args.from c.self.invariant
    (λ a low. (c.range.ensures.in_range tt).5 c.in-None.ensures.steps.0 a (not_gt_from_le _ _ low, tt)))
