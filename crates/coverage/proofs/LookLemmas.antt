-- A canonical list read by its places.
use Rattle.std.proofs.Common.{◌≡◌, ℕ, zero, suc, ◌+◌, ◌<◌, ◌≤◌, true, Option, List, [], ◌∷◌, Some, None, length, length-take, get_or-take, take, sym, ap, ap₂, ◌∙◌, arith, inl, inr, le_of_suc-le-suc, not-suc-le-zero}
use Rattle.std.proofs.lemmas.Bool.{cases_lt}
use Rattle.std.proofs.lemmas.List.{take_more}
use Rattle.std.specs.Ordering.{nat_cmp}
use Rattle.std.specs.BTreeMap.{insert_entry}
use Rattle.coverage.specs.Intervals.{Interval, interval_at, rises_from, IsCanonical, IsNextSpan, AllStartBefore}
use Rattle.coverage.specs.steps.Starts.{found}
use Rattle.coverage.proofs.HoldsLemmas.{rises_from-gap, rises_from-at, rises_from-parts}
use Rattle.coverage.proofs.MapLemmas.{found-nil, found-head, found-tail, found-cases, insert_entry-last}

-- what is found stands at some place
pub found-place : (ps : List Interval) (a b : ℕ) → found a ps ≡ Some b → (k : ℕ) × ((k < length ps) × (interval_at ps k ≡ (a, b)))
found-place [] a b f = absurd (found-nil a b f)
found-place (p ∷ ps) a b f = elim (found-cases a b p ps f) [
  | inl w ↦ (zero, (omega arith, ap₂ (λ (x y : ℕ). (x, y)) (sym w.0) (sym w.1)))
  | inr w ↦ let later = found-place ps a b w.1 in (suc later.0, (omega arith, later.1.1))
]

-- what stands at a place is found
pub place-found : (n : ℕ) (ps : List Interval) (k : ℕ) → rises_from n ps ≡ true → k < length ps → found (interval_at ps k).0 ps ≡ Some (interval_at ps k).1
place-found n [] k h hk = absurd (not-suc-le-zero hk)
place-found n (p ∷ ps) zero h hk = found-head p ps
place-found n (p ∷ ps) (suc k) h hk =
    let gap = rises_from-gap n (p ∷ ps) zero (suc k) h (omega arith) hk in
    let own = rises_from-at n (p ∷ ps) zero h (omega arith) in
    found-tail (interval_at ps k).0 p ps (λ e. absurd (omega arith))
    ∙ place-found (p.1 + 2) ps k (rises_from-parts n p ps h).1 (le_of_suc-le-suc hk)

-- the first interval that starts at a number or later
pub next_span_is : (ps : List Interval) (from : ℕ) (p : Interval) → IsCanonical ps → found p.0 ps ≡ Some p.1 → from ≤ p.0 → ((a b : ℕ) → found a ps ≡ Some b → from ≤ a → p.0 ≤ a) → IsNextSpan ps from p
next_span_is ps from p h f low least =
    let w = found-place ps p.0 p.1 f in (
      low,
      (
        w.0,
        (
          w.1.0,
          w.1.1,
          λ i lt. elim (cases_lt (interval_at ps i).0 from) [
            | inl before ↦ before
            | inr after ↦
                let le = least (interval_at ps i).0 (interval_at ps i).1 (place-found 1 ps i h (omega arith)) after in
                let gap = rises_from-gap 1 ps i w.0 h lt w.1.0 in
                let own = rises_from-at 1 ps i h (omega arith) in
                let start : (interval_at ps w.0).0 ≡ p.0 = ap (λ (q : Interval). q.0) w.1.1 in
                absurd (omega arith)
          ],
        ),
      ),
    )

pub all_start_before : (ps : List Interval) (from : ℕ) → IsCanonical ps → ((a : ℕ) → from ≤ a → found a ps ≡ None) → AllStartBefore ps from
all_start_before ps from h none k hk = elim (cases_lt (interval_at ps k).0 from) [
  | inl before ↦ before
  | inr after ↦ absurd (some_is_not_none _ _ (place-found 1 ps k h hk) (none (interval_at ps k).0 after))
]
  where
    some_is_not_none : (o : Option ℕ) (b : ℕ) → o ≡ Some b → o ≡ None → ⊥
    some_is_not_none o b p q = cc

-- the map of the intervals before a place, and the interval there
pub insert_entry-next : (old ps : List Interval) (i : ℕ) → IsCanonical ps → i < length ps → old ≡ take i ps →
    insert_entry nat_cmp old (interval_at ps i).0 (interval_at ps i).1 ≡ take (i + 1) ps
insert_entry-next old ps i h hi e =
    let below : (a b : ℕ) → found a (take i ps) ≡ Some b → a < (interval_at ps i).0 = λ a b f.
    let w = found-place (take i ps) a b f in
    let lt : w.0 < i = omega (arith, length-take i ps) in
    let is : (interval_at ps w.0).0 ≡ a = ap (λ (p : Interval). p.0) (sym (get_or-take i ps w.0 (0, 0) lt) ∙ w.1.1) in
    let gap = rises_from-gap 1 ps w.0 i h lt hi in
    let own = rises_from-at 1 ps w.0 h (omega arith) in
    omega arith in
    ap (λ l. insert_entry nat_cmp l (interval_at ps i).0 (interval_at ps i).1) e
    ∙ insert_entry-last (take i ps) _ _ below ∙ sym (take_more ps i (0, 0) hi)
