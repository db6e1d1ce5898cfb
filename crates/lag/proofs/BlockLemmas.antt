-- Blocks counted, interval by interval.
use Rattle.std.proofs.Common.{◌≡◌, ◌≤◌, ◌<◌, ◌-◌, ◌+◌, ◌∙◌, ℕ, zero, suc, List, [], ◌∷◌, ◌++◌, Bool, true, false, drop, filter, length, length-append, refl, sym, ap, subst, arith, inl, inr, not-suc-le-zero, le_of_suc-le-suc}
use Rattle.std.proofs.lemmas.Bool.{and_parts, cases_lt}
use Rattle.std.proofs.lemmas.Bool.Decides.{nat_tests}
use Rattle.std.proofs.lemmas.List.{drop_more}
use Rattle.std.proofs.lemmas.List.Elements.{filter-append}
use Rattle.std.proofs.lemmas.List.Sums.{sum_by-cons}
use Rattle.coverage.specs.Intervals.{AllStartBefore, Interval, IsCanonical, IsNextSpan, fits_from, interval_at, max_sequence, rises_from, size_of, width}
use Rattle.lag.specs.Blocks.{span}

-- ---- numbers of a span, counted one by one

span_next : (from to : ℕ) → from < to → span from (to - from) ≡ from ∷ span (suc from) (to - suc from)
span_next from to h = let more : to - from ≡ suc (to - suc from) = omega (arith, h) in ap (λ n. span from n) more

add_one : (k : ℕ) → suc k ≡ k + 1
add_one k = omega arith

counted : (f : ℕ → Bool) (k : ℕ) (ks : List ℕ) → f k ≡ true → length (filter f (k ∷ ks)) ≡ suc (length (filter f ks))
counted f k ks is = rw is refl

passed : (f : ℕ → Bool) (k : ℕ) (ks : List ℕ) → f k ≡ false → length (filter f (k ∷ ks)) ≡ length (filter f ks)
passed f k ks is = rw is refl

pub span_counts : (f : ℕ → Bool) (k to : ℕ) → k < to → f k ≡ true
    → length (filter f (span k (to - k))) ≡ 1 + length (filter f (span (k + 1) (to - (k + 1))))
span_counts f k to h is =
    let one : length (filter f (span k (to - k))) ≡ suc (length (filter f (span (suc k) (to - suc k)))) =
    ap (λ ks. length (filter f ks)) (span_next k to h) ∙ counted f k (span (suc k) (to - suc k)) is in
    let same : span (suc k) (to - suc k) ≡ span (k + 1) (to - (k + 1)) = ap (λ n. span n (to - n)) (add_one k) in
    let then : length (filter f (span (suc k) (to - suc k))) ≡ length (filter f (span (k + 1) (to - (k + 1)))) = ap (λ ks. length (filter f ks)) same in
    omega (arith, one, then)

pub span_passes : (f : ℕ → Bool) (k to : ℕ) → k < to → f k ≡ false
    → length (filter f (span k (to - k))) ≡ length (filter f (span (k + 1) (to - (k + 1))))
span_passes f k to h is =
    ap (λ ks. length (filter f ks)) (span_next k to h) ∙ passed f k (span (suc k) (to - suc k)) is
    ∙ ap (λ n. length (filter f (span n (to - n)))) (add_one k)

pub both_count : (f : ℕ → Bool) (xs ys : List ℕ) → length (filter f (xs ++ ys)) ≡ length (filter f xs) + length (filter f ys)
both_count f xs ys = ap (λ (l : List ℕ). length l) (filter-append f xs ys) ∙ length-append (filter f xs) (filter f ys)

-- ---- intervals, one by one

fits : (n : ℕ) (p : Interval) → fits_from n p ≡ true → (n ≤ p.0) × (p.0 ≤ p.1) × (p.1 ≤ max_sequence)
fits n p h = grind (arith, nat_tests)

parts : (n : ℕ) (p : Interval) (ps : List Interval) → rises_from n (p ∷ ps) ≡ true → (fits_from n p ≡ true) × (rises_from (p.1 + 2) ps ≡ true)
unfolding rises_from
parts n p ps h = and_parts _ _ h

pub fits_at : (n : ℕ) (ps : List Interval) (k : ℕ) → rises_from n ps ≡ true → k < length ps
    → (n ≤ (interval_at ps k).0) × ((interval_at ps k).0 ≤ (interval_at ps k).1) × ((interval_at ps k).1 ≤ max_sequence)
fits_at n [] k h hk = absurd (not-suc-le-zero hk)
fits_at n (p ∷ ps) zero h hk = fits n p (parts n p ps h).0
fits_at n (p ∷ ps) (suc k) h hk =
    let both = parts n p ps h in
    let head = fits n p both.0 in
    let rest = fits_at (p.1 + 2) ps k both.1 (le_of_suc-le-suc hk) in
    (omega arith, rest.1, rest.2)

pub gap_at : (n : ℕ) (ps : List Interval) (i j : ℕ) → rises_from n ps ≡ true → i < j → j < length ps → (interval_at ps i).1 + 1 < (interval_at ps j).0
gap_at n [] i j h lt hj = absurd (not-suc-le-zero hj)
gap_at n (p ∷ ps) zero zero h lt hj = absurd (not-suc-le-zero lt)
gap_at n (p ∷ ps) (suc i) zero h lt hj = absurd (not-suc-le-zero lt)
gap_at n (p ∷ ps) zero (suc j) h lt hj =
    let rest = fits_at (p.1 + 2) ps j (parts n p ps h).1 (le_of_suc-le-suc hj) in
    omega arith
gap_at n (p ∷ ps) (suc i) (suc j) h lt hj =
    gap_at (p.1 + 2) ps i j (parts n p ps h).1 (le_of_suc-le-suc lt) (le_of_suc-le-suc hj)

pub record IsAt (ps : List Interval) (i from : ℕ) : Type 0 where
  pub within : i ≤ length ps
  pub before : (j : ℕ) → j < i → (interval_at ps j).0 < from
  pub behind : (j : ℕ) → i ≤ j → j < length ps → from ≤ (interval_at ps j).0

pub record IsNext (ps : List Interval) (i : ℕ) (p : Interval) : Type 0 where
  pub inside : i < length ps
  pub is : interval_at ps i ≡ p
  pub ordered : p.0 ≤ p.1
  pub bounded : p.1 ≤ max_sequence
  pub rest : drop i ps ≡ p ∷ drop (i + 1) ps
  pub at : IsAt ps (i + 1) (p.1 + 1)

same_place : (ps : List Interval) (i from k : ℕ) (p : Interval) → IsAt ps i from → from ≤ p.0 → k < length ps → interval_at ps k ≡ p
    → ((j : ℕ) → j < k → (interval_at ps j).0 < from) → i ≡ k
same_place ps i from k p at low hk is none =
    elim (cases_lt i k) [
      | inl less ↦ (let one = at.behind i (omega arith) (omega (arith, less, hk)) in let two = none i less in absurd (omega (arith, one, two)))
      | inr not ↦ elim (cases_lt k i) [
        | inl less ↦ (let one = at.before k less in let two : from ≤ (interval_at ps k).0 = subst (λ (q : Interval). from ≤ q.0) (sym is) low in absurd (omega (arith, one, two)))
        | inr neither ↦ omega (arith, not, neither)
      ]
    ]

pub next_is : (ps : List Interval) (i from : ℕ) (p : Interval) → IsCanonical ps → IsAt ps i from → IsNextSpan ps from p → IsNext ps i p
next_is ps i from p h at next =
    let k = next.1.0 in
    let hk = next.1.1.0 in
    let same = same_place ps i from k p at next.0 hk next.1.1.1 next.1.1.2 in
    let inside : i < length ps = omega (arith, same, hk) in
    let is : interval_at ps i ≡ p = subst (λ n. interval_at ps n ≡ p) (sym same) next.1.1.1 in
    let own = fits_at 1 ps i h inside in
    let ordered : p.0 ≤ p.1 = subst (λ (q : Interval). q.0 ≤ q.1) is own.1 in
    let bounded : p.1 ≤ max_sequence = subst (λ (q : Interval). q.1 ≤ max_sequence) is own.2 in
    record {
      inside = inside;
      is = is;
      ordered = ordered;
      bounded = bounded;
      rest = subst (λ (q : Interval). drop i ps ≡ q ∷ drop (i + 1) ps) is (drop_more ps i (0, 0) inside);
      at = record {
        within = omega (arith, inside);
        before = λ j lt. elim (cases_lt j i) [
          | inl less ↦ (let one = at.before j less in omega (arith, one, next.0, ordered))
          | inr not ↦ (let e : i ≡ j = omega (arith, not, lt) in let one : (interval_at ps j).0 ≡ p.0 = ap (λ n. (interval_at ps n).0) (sym e) ∙ ap (λ (q : Interval). q.0) is in omega (arith, one, ordered))
        ];
        behind = λ j low hj. (let one : p.1 + 1 < (interval_at ps j).0 = subst (λ (q : Interval). q.1 + 1 < (interval_at ps j).0) is (gap_at 1 ps i j h (omega (arith, low)) hj) in omega (arith, one));
      };
    }

pub none_left : (ps : List Interval) (i from : ℕ) → IsAt ps i from → AllStartBefore ps from → length ps ≤ i
none_left ps i from at all = elim (cases_lt i (length ps)) [
  | inl less ↦ (let one = at.behind i (omega arith) less in let two = all i less in absurd (omega (arith, one, two)))
  | inr not ↦ not
]

-- intervals are no more than their numbers
pub few : (ps : List Interval) → length ps ≤ size_of ps
few [] = omega arith
few (p ∷ ps) = let rest = few ps in let sum = sum_by-cons width p ps in omega (arith, rest, sum)
