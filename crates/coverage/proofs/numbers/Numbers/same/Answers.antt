use Rattle.std.proofs.Common.{◌≡◌, false, true≢false, refl, ap, subst, sym, ◌∙◌, string_bytes}
use Rattle.std.specs.Prelude.{IsTrue, ◌↔◌}
use Rattle.coverage.specs.Numbers.{Entry, AreListed}
use Rattle.coverage.specs.steps.Entries.{sources_in}
use Rattle.coverage.proofs.CompareLemmas.{same_none, same_more, same_end, not_same_source, not_same_numbers, not_same_end, same_text, other_text, same_by_numbers, same_by_texts}
use Rattle.coverage.proofs.numbers.Numbers.same.Goals.{then-ne-via-then-ne, then-ne-via-else-ne+then-not-same}
use Rattle.coverage.proofs.numbers.Numbers.same.Goals as goal

pub loop-source-init : goal.loop-source-init
loop-source-init c =
    same_none c.args.self.now c.args.other.now _ _ (ap sources_in c.into_iter-source-iterator.ensures.into_iter_gives.0 ∙ c.self.view_is) (ap sources_in c.iter-others.ensures.rest ∙ c.other.view_is)

pub loop-source-preserved : goal.loop-source-preserved
loop-source-preserved c =
    same_more c.args.self.now c.args.other.now _ _ (string_bytes c.in-Some.source.now, c.in-Some.numbers.now) (string_bytes c.in-Some-next.other_source.now, c.in-Some-next.other_numbers.now) _ _
    c.loop-source.invariant (ap sources_in c.in-Some.ensures.steps) (ap sources_in c.in-Some-next.ensures.steps)
    (same_text _ _ _ _ c.as_str.ensures.value c.as_str-in-loop-source.ensures.value c.if-ne.ensures)
    (c.if-not-same.ensures.equal.0 refl)

pub returns-in_default : goal.returns-in_default
returns-in_default c =
    let xs = c.args.self.now in
    let ys = c.args.other.now in
    let hx = subst AreListed c.self.view_is c.self.invariant in
    let hy = subst AreListed c.other.view_is c.other.invariant in
    let equal : IsTrue false ↔ (xs ≡ ys) = (
      λ t. absurd (true≢false (sym t)),
      λ same. absurd (not_same_end xs ys _ _ (string_bytes c.in-Some.source.now, c.in-Some.numbers.now) _ c.loop-source.invariant (ap sources_in c.in-Some.ensures.steps) (ap sources_in c.in_default.ensures.steps.0) same),
    ) in record {
      equal = equal;
      numbers = same_by_numbers xs ys false hx hy equal;
      texts = same_by_texts xs ys false hx hy equal;
      listed = hx;
      other = hy;
    }

pub returns-then-ne : goal.returns-then-ne
returns-then-ne c =
    let xs = c.args.self.now in
    let ys = c.args.other.now in
    let hx = subst AreListed c.self.view_is c.self.invariant in
    let hy = subst AreListed c.other.view_is c.other.invariant in
    let d : Entry = (string_bytes c.in-Some.source.now, c.in-Some.numbers.now) in
    let e : Entry = (string_bytes c.in-Some-next.other_source.now, c.in-Some-next.other_numbers.now) in
    let apart : xs ≡ ys → ⊥ = elim c.then-ne.branch [
      | then-ne-via-then-ne w ↦ not_same_source xs ys _ _ d e _ _ c.loop-source.invariant (ap sources_in c.in-Some.ensures.steps) (ap sources_in c.in-Some-next.ensures.steps)
          (other_text _ _ _ _ c.as_str.ensures.value c.as_str-in-loop-source.ensures.value w.if-ne.ensures)
      | then-ne-via-else-ne+then-not-same w ↦ not_same_numbers xs ys _ _ d e _ _ c.loop-source.invariant (ap sources_in c.in-Some.ensures.steps) (ap sources_in c.in-Some-next.ensures.steps)
          (λ same. true≢false (sym (w.if-not-same.ensures.equal.1 same)))
    ] in
    let equal : IsTrue false ↔ (xs ≡ ys) = (λ t. absurd (true≢false (sym t)), λ same. absurd (apart same)) in record {
      equal = equal;
      numbers = same_by_numbers xs ys false hx hy equal;
      texts = same_by_texts xs ys false hx hy equal;
      listed = hx;
      other = hy;
    }

pub returns : goal.returns
returns c =
    let xs = c.args.self.now in
    let ys = c.args.other.now in
    let hx = subst AreListed c.self.view_is c.self.invariant in
    let hy = subst AreListed c.other.view_is c.other.invariant in
    let equal = same_end xs ys _ _ _ c.next-2.result c.is_none.result c.loop-source.invariant (ap sources_in c.in-None.ensures.steps.0) c.next-2.ensures.steps c.is_none.ensures in record {
      equal = equal;
      numbers = same_by_numbers xs ys c.is_none.result hx hy equal;
      texts = same_by_texts xs ys c.is_none.result hx hy equal;
      listed = hx;
      other = hy;
    }
