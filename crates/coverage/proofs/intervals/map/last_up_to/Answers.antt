use Rattle.std.proofs.Common.{◌≡◌, ℕ, ◌≤◌, false, refl, arith}
use Rattle.std.specs.Ordering.{nat_cmp, is_gt}
use Rattle.std.proofs.lemmas.Bool.Decides.{nat_tests}
use Rattle.std.proofs.lemmas.Map.Keys.{le_from_not_gt, ge_from_not_lt}
use Rattle.coverage.proofs.intervals.map.last_up_to.Goals as goal

not_gt_from_le : (a n : ℕ) → a ≤ n → is_gt (nat_cmp a n) ≡ false
not_gt_from_le a n h = grind (arith, nat_tests)

pub returns-in-Some : goal.returns-in-Some
returns-in-Some c =
    let inside = (c.range.ensures.in_range tt).3 _ _ c.in-Some.ensures.steps in
    let greatest = (c.range.ensures.in_range tt).4 _ _ c.in-Some.ensures.steps in
    (inside.1, le_from_not_gt _ _ inside.0.1, λ a b le f. ge_from_not_lt _ _ (greatest a (tt, not_gt_from_le _ _ le) (rw f refl)))
