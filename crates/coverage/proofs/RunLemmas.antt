-- Numbers that are held in a row, from a number on.
use Rattle.std.proofs.Common.{◌≡◌, ℕ, ◌<◌, ◌≤◌, true, Some, None, List, length, sym, ap, ◌∙◌, arith, inl, inr}
use Rattle.std.proofs.lemmas.Bool.{cases_Bool, cases_eq, cases_lt}
use Rattle.block_digests.specs.Block.{block_of}
use Rattle.coverage.specs.Intervals.{AllStartBefore, Interval, IsCanonical, IsNextSpan, holds, interval_at}
use Rattle.coverage.specs.steps.Spans.{IsRunFrom, NoneFrom}
use Rattle.coverage.specs.steps.Starts.{IsLastUpTo, NoneUpTo, found}
use Rattle.coverage.proofs.HoldsLemmas.{holds-at, in_interval-true, rises_from-at, rises_from-gap}
use Rattle.coverage.proofs.LookLemmas.{found-place}
use Rattle.coverage.proofs.MapLemmas.{found-apart, found-holds, holds-found}

-- each interval that starts at the number or before ends before it
abbrev pub EndBefore : List Interval → ℕ → Type 0
EndBefore ps from = (a b : ℕ) → a ≤ from → found a ps ≡ Some b → b < from

some_is_some : (a b : ℕ) → Some a ≡ Some b → a ≡ b
some_is_some a b h = cc

pub end_none : (ps : List Interval) (from : ℕ) → NoneUpTo ps from → EndBefore ps from
end_none ps from none a b low f = absurd (some_is_none b (sym f ∙ none a low))
  where
    some_is_none : (b : ℕ) → Some b ≡ None → ⊥
    some_is_none b h = cc

pub end_last : (ps : List Interval) (from : ℕ) (p : Interval) → IsCanonical ps → IsLastUpTo ps from p → p.1 < from → EndBefore ps from
end_last ps from p h last less a b low f =
    let upto = last.2 a b low f in
    elim (cases_eq a p.0) [
      | inl e ↦ let same : b ≡ p.1 = some_is_some b p.1 (sym f ∙ ap (λ q. found q ps) e ∙ last.0) in omega arith
      | inr other ↦ let gap = found-apart 1 ps a b p.0 p.1 h f last.0 (omega arith) in let from = last.1 in omega arith
    ]

-- a number that is held stands in an interval that starts behind
starts_behind : (ps : List Interval) (from m : ℕ) → IsCanonical ps → EndBefore ps from → from ≤ m → holds ps m ≡ true
    → (k : ℕ) × ((k < length ps) × (from < (interval_at ps k).0) × ((interval_at ps k).0 ≤ m) × (m ≤ (interval_at ps k).1))
starts_behind ps from m h end low t =
    let w = holds-found 1 ps m h t in
    let a = w.0 in
    let b = w.1.0 in
    let is = w.1.1 in
    let place = found-place ps a b is.0 in
    let first : (interval_at ps place.0).0 ≡ a = ap (λ (q : Interval). q.0) place.1.1 in
    let last : (interval_at ps place.0).1 ≡ b = ap (λ (q : Interval). q.1) place.1.1 in
    elim (cases_lt from a) [
      | inl behind ↦ (place.0, (place.1.0, omega arith, omega (arith, is.1), omega (arith, is.2)))
      | inr upto ↦ let before = end a b upto is.0 in absurd (omega (arith, is.2))
    ]

pub none_from : (ps : List Interval) (from : ℕ) → IsCanonical ps → EndBefore ps from → AllStartBefore ps from → NoneFrom ps from
none_from ps from h end all m low = elim (cases_Bool (holds ps m)) [
  | inl t ↦ let w = starts_behind ps from m h end low t in absurd (omega (arith, all w.0 w.1.0, w.1.1))
  | inr f ↦ f
]

pub run_behind : (ps : List Interval) (from : ℕ) (p : Interval) → IsCanonical ps → EndBefore ps from → IsNextSpan ps from p → IsRunFrom ps from p
run_behind ps from p h end next =
    let k = next.1.0 in
    let here = next.1.1.0 in
    let first : (interval_at ps k).0 ≡ p.0 = ap (λ (q : Interval). q.0) next.1.1.1 in
    let last : (interval_at ps k).1 ≡ p.1 = ap (λ (q : Interval). q.1) next.1.1.1 in
    let fits = rises_from-at 1 ps k h here in
    record {
      later = next.0;
      rises = omega (arith, fits.1);
      none_before = λ m low less. elim (cases_Bool (holds ps m)) [
        | inl t ↦
            let w = starts_behind ps from m h end low t in
            elim (cases_lt w.0 k) [
              | inl before ↦ absurd (omega (arith, next.1.1.2 w.0 before, w.1.1))
              | inr upto ↦ elim (cases_eq w.0 k) [
                | inl e ↦ let same : (interval_at ps w.0).0 ≡ (interval_at ps k).0 = ap (λ i. (interval_at ps i).0) e in absurd (omega (arith, w.1.2))
                | inr other ↦ let gap = rises_from-gap 1 ps k w.0 h (omega arith) w.1.0 in absurd (omega (arith, gap, w.1.2, fits.1))
              ]
            ]
        | inr f ↦ f
      ];
      held = λ m low high. holds-at ps k m here (in_interval-true (interval_at ps k) m (omega arith) (omega arith));
    }

-- the rest of an interval in which the number stands
pub run_within : (ps : List Interval) (from : ℕ) (p : Interval) → IsLastUpTo ps from p → from ≤ p.1 → IsRunFrom ps from (from, p.1)
run_within ps from p last within = record {
  later = omega arith;
  rises = within;
  none_before = λ m low less. absurd (omega arith);
  held = λ m low high. found-holds ps p.0 p.1 m last.0 (omega (arith, last.1)) high;
}

-- up to a number each one of the block that the other list holds is held
abbrev pub CoversUpToIn : List Interval → List Interval → ℕ → ℕ → Type 0
CoversUpToIn ps qs k end = (n : ℕ) → block_of n ≡ k → n < end → holds qs n ≡ true → holds ps n ≡ true
