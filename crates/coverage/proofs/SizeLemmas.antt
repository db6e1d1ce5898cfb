-- The size of a set, counted number by number.
use Rattle.std.proofs.Common.{◌≡◌, ℕ, zero, suc, ◌+◌, ◌-◌, ◌<◌, ◌≤◌, Bool, true, false, cond, ◌||◌, ◌⊎◌, List, [], ◌∷◌, refl, sym, ap, ap₂, ◌∙◌, arith, inl, inr}
use Rattle.std.proofs.lemmas.Bool.{both_ways, cases_lt, and_from}
use Rattle.std.proofs.lemmas.List.Sums.{sum_by-cons}
use Rattle.std.specs.List.{count_by, range_with_len}
use Rattle.coverage.specs.Intervals.{Interval, in_interval, holds, rises_from, IsCanonical, width, size_of}
use Rattle.coverage.proofs.HoldsLemmas.{first_is_held, fits_from-true, le-fits_from, holds-below, holds-cons, holds-nil, in_interval_tells, rises_from-cons, rises_from-nil, rises_from-parts}

count-cons : (p : ℕ → Bool) (a n : ℕ) → count_by p (range_with_len a (suc n)) ≡ cond (p a) 1 0 + count_by p (range_with_len (a + 1) n)
count-cons p a n = sum_by-cons (λ x. cond (p x) 1 0) a (range_with_len (a + 1) n)

-- a count asks of the numbers from the first on alone
count-same : (p q : ℕ → Bool) (a n : ℕ) → ((m : ℕ) → a ≤ m → p m ≡ q m) → count_by p (range_with_len a n) ≡ count_by q (range_with_len a n)
count-same p q a zero h = refl
count-same p q a (suc n) h =
    count-cons p a n
    ∙ ap₂ (λ (b : Bool) (k : ℕ). cond b 1 0 + k) (h a (omega arith)) (count-same p q (a + 1) n (λ m le. h m (omega arith)))
    ∙ sym (count-cons q a n)

count-more : (p : ℕ → Bool) (a n : ℕ) (b : Bool) → p a ≡ b → count_by p (range_with_len a (suc n)) ≡ cond b 1 0 + count_by p (range_with_len (a + 1) n)
count-more p a n b h = count-cons p a n ∙ ap (λ (x : Bool). cond x 1 0 + count_by p (range_with_len (a + 1) n)) h

rises_from-less : (n m : ℕ) (ps : List Interval) → m ≤ n → rises_from n ps ≡ true → rises_from m ps ≡ true
rises_from-less n m [] le h = rises_from-nil m
rises_from-less n m (p ∷ ps) le h =
    let parts = rises_from-parts n p ps h in
    let fits = fits_from-true n p parts.0 in
    rises_from-cons m p ps ∙ and_from _ _ (le-fits_from m p (omega arith) fits.1 fits.2) parts.1

-- an interval without its first number
holds-shorter : (p : Interval) (ps : List Interval) (m : ℕ) → p.0 + 1 ≤ m → holds (p ∷ ps) m ≡ holds ((p.0 + 1, p.1) ∷ ps) m
holds-shorter p ps m le =
    holds-cons p ps m ∙ ap (λ b. b || holds ps m) (same (in_interval_tells p m) (in_interval_tells (p.0 + 1, p.1) m)) ∙ sym (holds-cons (p.0 + 1, p.1) ps m)
  where
    same : ((in_interval p m ≡ true) × (p.0 ≤ m) × (m ≤ p.1)) ⊎ ((in_interval p m ≡ false) × ((m < p.0) ⊎ (p.1 < m)))
        → ((in_interval (p.0 + 1, p.1) m ≡ true) × (p.0 + 1 ≤ m) × (m ≤ p.1)) ⊎ ((in_interval (p.0 + 1, p.1) m ≡ false) × ((m < p.0 + 1) ⊎ (p.1 < m)))
        → in_interval p m ≡ in_interval (p.0 + 1, p.1) m
    same (inl x) (inl y) = x.0 ∙ sym y.0
    same (inl x) (inr y) = elim y.1 [ inl lt ↦ absurd (omega arith) | inr lt ↦ let high = x.2 in absurd (omega arith) ]
    same (inr x) (inl y) = elim x.1 [ inl lt ↦ absurd (omega arith) | inr lt ↦ let high = y.2 in absurd (omega arith) ]
    same (inr x) (inr y) = x.0 ∙ sym y.0

-- an interval of one number is behind
holds-behind : (p : Interval) (ps : List Interval) (m : ℕ) → p.1 < m → holds (p ∷ ps) m ≡ holds ps m
holds-behind p ps m lt =
    let out : in_interval p m ≡ false = elim (in_interval_tells p m) [ inl w ↦ let high = w.2 in absurd (omega arith) | inr w ↦ w.0 ] in
    holds-cons p ps m ∙ ap (λ b. b || holds ps m) out

size_of-cons : (p : Interval) (ps : List Interval) → size_of (p ∷ ps) ≡ p.1 - p.0 + 1 + size_of ps
size_of-cons p ps = sum_by-cons width p ps

count-from : (n a : ℕ) (s : List Interval) → rises_from a s ≡ true → ((m : ℕ) → holds s m ≡ true → m < a + n) → size_of s ≡ count_by (holds s) (range_with_len a n)
count-from zero a [] h below = refl
count-from zero a (p ∷ ps) h below =
    let fits = fits_from-true a p (rises_from-parts a p ps h).0 in
    let lt = below p.0 (first_is_held a p ps h) in
    absurd (omega arith)
count-from (suc n) a [] h below =
    let left = count-from n (a + 1) [] (rises_from-nil (a + 1)) (λ m t. absurd (both_ways _ (holds-nil m) t)) in
    let more = count-more (holds []) a n false (holds-nil a) in
    omega (arith, left, more)
count-from (suc n) a (p ∷ ps) h below =
    let parts = rises_from-parts a p ps h in
    let fits = fits_from-true a p parts.0 in
    elim (cases_lt a p.0) [
      | inl lt ↦
          let rises : rises_from (a + 1) (p ∷ ps) ≡ true = rises_from-cons (a + 1) p ps ∙ and_from _ _ (le-fits_from (a + 1) p (omega arith) fits.1 fits.2) parts.1 in
          let first : holds (p ∷ ps) a ≡ false = holds-below p.0 (p ∷ ps) a (rises_from-cons p.0 p ps ∙ and_from _ _ (le-fits_from p.0 p (omega arith) fits.1 fits.2) parts.1) lt in
          let left = count-from n (a + 1) (p ∷ ps) rises (λ m t. let under = below m t in omega arith) in
          let more = count-more (holds (p ∷ ps)) a n false first in
          omega (arith, left, more)
      | inr upto ↦
          let e : p.0 ≡ a = omega arith in
          let first : holds (p ∷ ps) a ≡ true = ap (holds (p ∷ ps)) (sym e) ∙ first_is_held a p ps h in
          let more = count-more (holds (p ∷ ps)) a n true first in
          elim (cases_lt p.0 p.1) [
            | inl lt ↦
                let q : Interval = (p.0 + 1, p.1) in
                let rises : rises_from (a + 1) (q ∷ ps) ≡ true = rises_from-cons (a + 1) q ps ∙ and_from _ _ (le-fits_from (a + 1) q (omega arith) (omega arith) fits.2) parts.1 in
                let left = count-from n (a + 1) (q ∷ ps) rises (λ m t. held_below n a p ps m e below t) in
                let same = count-same (holds (p ∷ ps)) (holds (q ∷ ps)) (a + 1) n (λ m le. holds-shorter p ps m (omega arith)) in
                let size = size_of-cons p ps in
                let shorter = size_of-cons q ps in
                omega (arith, size, shorter, left, same, more)
            | inr ge ↦
                let rises : rises_from (a + 1) ps ≡ true = rises_from-less (p.1 + 2) (a + 1) ps (omega arith) parts.1 in
                let left = count-from n (a + 1) ps rises (λ m t. let lt = below m (holds-cons p ps m ∙ ap (λ b. in_interval p m || b) t ∙ or_true (in_interval p m)) in omega arith) in
                let same = count-same (holds (p ∷ ps)) (holds ps) (a + 1) n (λ m le. holds-behind p ps m (omega arith)) in
                let size = size_of-cons p ps in
                omega (arith, size, left, same, more)
          ]
    ]
  where
    or_true : (b : Bool) → (b || true) ≡ true
    or_true true = refl
    or_true false = refl

    held_below : (n a : ℕ) (p : Interval) (ps : List Interval) (m : ℕ) → p.0 ≡ a → ((k : ℕ) → holds (p ∷ ps) k ≡ true → k < a + suc n) → holds ((p.0 + 1, p.1) ∷ ps) m ≡ true → m < a + 1 + n
    held_below n a p ps m e below t = elim (cases_lt m (p.0 + 1)) [
      | inl early ↦ omega arith
      | inr late ↦ let lt = below m (holds-shorter p ps m late ∙ t) in omega arith
    ]

pub size_of-count : (s : List Interval) (limit : ℕ) → IsCanonical s → ((n : ℕ) → holds s n ≡ true → n < limit) → size_of s ≡ count_by (holds s) (range_with_len 0 limit)
size_of-count s limit h below = count-from limit 0 s (rises_from-less 1 0 s (omega arith) h) (λ m t. let lt = below m t in omega arith)
