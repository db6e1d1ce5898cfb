-- The blocks that intervals span.
use Rattle.std.proofs.Common.{◌≡◌, ℕ, ◌+◌, ◌*◌, ◌/◌, ◌<◌, ◌≤◌, Bool, true, false, ◌||◌, ◌⊎◌, List, [], ◌∷◌, ◌++◌, length, take, take_all, refl, sym, ap, ◌∙◌, arith, inl, inr}
use Rattle.std.specs.Prelude.{◌↔◌, IsTrue}
use Rattle.std.proofs.lemmas.Bool.{both_ways, cases_Bool, cases_lt}
use Rattle.std.proofs.lemmas.List.{take_more}
use Rattle.block_digests.specs.Block.{block_of}
use Rattle.coverage.specs.Intervals.{Interval, IsCanonical, holds, in_interval, interval_at, max_sequence, rises_from}
use Rattle.coverage.specs.steps.Fits.{HoldsIn}
use Rattle.coverage.specs.steps.Starts.{last_start_or, StartsAtMost}
use Rattle.coverage.proofs.HoldsLemmas.{fits_from-true, holds-cons, holds-nil, holds-push, in_interval-parts, in_interval-true, last_start_or-nil, rises_from-at, rises_from-gap, rises_from-nil, rises_from-parts}

-- block k as k + 1
abbrev pub span : Interval → Interval
span p = (p.0 / 1024 + 1, p.1 / 1024 + 1)

abbrev pub spans : List Interval → List Interval
spans [] = []
spans (p ∷ ps) = span p ∷ spans ps

spans-push : (ps : List Interval) (p : Interval) → spans (ps ++ p ∷ []) ≡ spans ps ++ span p ∷ []
spans-push [] p = refl
spans-push (q ∷ ps) p = ap (λ l. span q ∷ l) (spans-push ps p)

-- the spans of the first i intervals
pub record AreSpansUpTo (pairs : List Interval) (i : ℕ) (found : List Interval) : Type 0 where
  pub canonical : IsCanonical found
  pub starts : i < length pairs → StartsAtMost found ((interval_at pairs i).0 / 1024 + 1)
  pub members : (n : ℕ) → holds found n ≡ holds (spans (take i pairs)) n

pub spans_none : (pairs found : List Interval) → found ≡ [] → AreSpansUpTo pairs 0 found
spans_none pairs found none = record {
  canonical = ap (rises_from 1) none ∙ rises_from-nil 1;
  starts = λ lt. omega (arith, ap (last_start_or 0) none ∙ last_start_or-nil 0);
  members = λ n. ap (λ l. holds l n) none;
}

pub span_fits : (pairs : List Interval) (i : ℕ) → IsCanonical pairs → i < length pairs
    → (1 ≤ (span (interval_at pairs i)).0) × ((span (interval_at pairs i)).0 ≤ (span (interval_at pairs i)).1) × ((span (interval_at pairs i)).1 ≤ max_sequence)
span_fits pairs i h lt =
    let own = rises_from-at 1 pairs i h lt in
    let low = own.1 in
    let high = own.2 in
    (omega arith, omega (arith, low), omega (arith, high))

pub spans_more : (pairs : List Interval) (i : ℕ) (old new : List Interval) → IsCanonical pairs → i < length pairs → AreSpansUpTo pairs i old → IsCanonical new
    → ((n : ℕ) → holds new n ≡ (holds old n || in_interval (span (interval_at pairs i)) n)) → StartsAtMost new (span (interval_at pairs i)).0 → AreSpansUpTo pairs (i + 1) new
spans_more pairs i old new h hi m canonical members starts = record {
  canonical = canonical;
  starts = λ lt.
      let gap = rises_from-gap 1 pairs i (i + 1) h (omega arith) lt in
      let own = (rises_from-at 1 pairs i h hi).1 in
      let first : (interval_at pairs i).0 / 1024 ≤ (interval_at pairs (i + 1)).0 / 1024 = omega (arith, gap, own) in
      omega (arith, starts, first);
  members = λ n. members n ∙ ap (λ b. b || in_interval (span (interval_at pairs i)) n) (m.members n)
      ∙ sym (ap (λ l. holds (spans l) n) (take_more pairs i (0, 0) hi) ∙ ap (λ l. holds l n) (spans-push (take i pairs) (interval_at pairs i)) ∙ holds-push (spans (take i pairs)) (span (interval_at pairs i)) n);
}

-- a block that an interval spans holds a number of it
number_in : (p : Interval) (k : ℕ) → p.0 ≤ p.1 → in_interval (span p) (k + 1) ≡ true → (n : ℕ) × ((in_interval p n ≡ true) × (block_of n ≡ k))
number_in p k ordered held =
    let parts = in_interval-parts (span p) (k + 1) held in
    let low : p.0 / 1024 ≤ k = omega (arith, parts.0) in
    let high : k ≤ p.1 / 1024 = omega (arith, parts.1) in
    elim (cases_lt (p.0 / 1024) k) [
      | inl lt ↦ (1024 * k, (in_interval-true p (1024 * k) (omega (arith, lt)) (omega (arith, high)), omega arith))
      | inr ge ↦ (p.0, (in_interval-true p p.0 (omega arith) ordered, omega (arith, low, ge)))
    ]

held_first : (p : Interval) (ps : List Interval) (n : ℕ) → in_interval p n ≡ true → holds (p ∷ ps) n ≡ true
held_first p ps n h = holds-cons p ps n ∙ ap (λ b. b || holds ps n) h

or-true : (x : Bool) → (x || true) ≡ true
or-true true = refl
or-true false = refl

held_later : (p : Interval) (ps : List Interval) (n : ℕ) → holds ps n ≡ true → holds (p ∷ ps) n ≡ true
held_later p ps n h = holds-cons p ps n ∙ ap (λ b. in_interval p n || b) h ∙ or-true (in_interval p n)

held_where : (p : Interval) (ps : List Interval) (n : ℕ) → holds (p ∷ ps) n ≡ true → (in_interval p n ≡ true) ⊎ (holds ps n ≡ true)
held_where p ps n h = elim (cases_Bool (in_interval p n)) [
  | inl t ↦ inl t
  | inr f ↦ inr (sym (ap (λ b. b || holds ps n) f) ∙ sym (holds-cons p ps n) ∙ h)
]

spanned : (n : ℕ) (ps : List Interval) (k : ℕ) → rises_from n ps ≡ true → holds (spans ps) (k + 1) ≡ true → HoldsIn ps k
spanned n [] k h held = absurd (both_ways _ (holds-nil (k + 1)) held)
spanned n (p ∷ ps) k h held =
    let parts = rises_from-parts n p ps h in
    elim (held_where (span p) (spans ps) (k + 1) held) [
      | inl t ↦ let w = number_in p k (fits_from-true n p parts.0).1 t in (w.0, (held_first p ps w.0 w.1.0, w.1.1))
      | inr t ↦ let w = spanned (p.1 + 2) ps k parts.1 t in (w.0, (held_later p ps w.0 w.1.0, w.1.1))
    ]

holding : (ps : List Interval) (k n : ℕ) → holds ps n ≡ true → block_of n ≡ k → holds (spans ps) (k + 1) ≡ true
holding [] k n held is = absurd (both_ways _ (holds-nil n) held)
holding (p ∷ ps) k n held is = elim (held_where p ps n held) [
  | inl t ↦
      let parts = in_interval-parts p n t in
      let low : p.0 / 1024 ≤ n / 1024 = omega (arith, parts.0) in
      let high : n / 1024 ≤ p.1 / 1024 = omega (arith, parts.1) in
      held_first (span p) (spans ps) (k + 1) (in_interval-true (span p) (k + 1) (omega (arith, low, is)) (omega (arith, high, is)))
  | inr t ↦ held_later (span p) (spans ps) (k + 1) (holding ps k n t is)
]

pub spans_all : (pairs : List Interval) (i : ℕ) (found : List Interval) → IsCanonical pairs → AreSpansUpTo pairs i found → length pairs ≤ i → (k : ℕ) → IsTrue (holds found (k + 1)) ↔ HoldsIn pairs k
spans_all pairs i found h m end k =
    let same : holds found (k + 1) ≡ holds (spans pairs) (k + 1) = m.members (k + 1) ∙ ap (λ l. holds (spans l) (k + 1)) (take_all i pairs end) in
    (λ t. spanned 1 pairs k h (sym same ∙ t), λ w. same ∙ holding pairs k w.0 w.1.0 w.1.1)
