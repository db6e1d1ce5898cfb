use Rattle.std.proofs.Common.{◌<◌, ◌≤◌, ◌^◌, arith, refl, rules, subst, sym, true≢false, ◌∙◌, length, take_all}
use Rattle.std.proofs.lemmas.Cmp.{nat_list_cmp_total}
use Rattle.attributes.specs.Bytes.{byte_cmp}
use Rattle.parts.specs.Counts.{AreCounts}
use Rattle.parts.proofs.ReadLemmas.{counted_at, counts_next, must_rise, no_counts}
use Rattle.parts.proofs.kinds.are_counts.Goals.{else-i-gt0-via-then-i-gt0+else-not-is_before, else-i-gt0-via-else-i-gt0}
use Rattle.parts.proofs.kinds.are_counts.Goals as goal

pub loop-i-init : goal.loop-i-init
loop-i-init c = no_counts nat_list_cmp_total

pub returns-then-at-eq0 : goal.returns-then-at-eq0
returns-then-at-eq0 c = (
  (λ h. absurd (true≢false (sym h))),
  (λ a. let one = (counted_at nat_list_cmp_total c.args.rows.now c.loop-i.i c.at.result.now a.1 c.at.ensures).0 in absurd (omega (arith, one, c.if-at-eq0.true))),
)

pub returns-then-not-is_before : goal.returns-then-not-is_before
returns-then-not-is_before c = (
  (λ h. absurd (true≢false (sym h))),
  (λ a.
      let less = must_rise nat_list_cmp_total c.args.rows.now c.loop-i.i c.at-then-i-gt0.result.now c.at-then-i-gt0-2.result.now a c.if-i-gt0.true c.at-then-i-gt0.ensures c.at-then-i-gt0-2.ensures in
      absurd (true≢false (sym (c.is_before.ensures.1 less) ∙ c.if-not-is_before.true))),
)

pub loop-i-preserved : goal.loop-i-preserved
loop-i-preserved c =
    let some : 1 ≤ c.at.result.now.1 = omega (arith, c.if-at-eq0.false) in
    let fits : c.at.result.now.1 < 2 ^ 64 = search rules in
    counts_next nat_list_cmp_total c.args.rows.now c.loop-i.i c.at.result.now c.loop-i.invariant c.at.ensures (some, fits)
    (elim c.else-i-gt0.branch [
      | else-i-gt0-via-then-i-gt0+else-not-is_before w ↦ λ some. record {
        before = w.at-then-i-gt0.result.now;
        row = w.at-then-i-gt0-2.result.now;
        there = w.at-then-i-gt0.ensures;
        here = w.at-then-i-gt0-2.ensures;
        less = w.is_before.ensures.0 w.if-not-is_before.false;
      }
      | else-i-gt0-via-else-i-gt0 w ↦ λ some. absurd (omega (arith, some, w.if-i-gt0.false))
    ])

pub returns : goal.returns
returns c =
    let end : length c.args.rows.now ≤ c.loop-i.i = omega (arith, c.len-i-end.ensures, c.loop-i-test.false) in
    let whole = subst (AreCounts byte_cmp) (take_all c.loop-i.i c.args.rows.now end) c.loop-i.invariant in
    ((λ h. whole), (λ a. refl))
