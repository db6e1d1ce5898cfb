-- What is held by lists of intervals, and what a canonical list says of its places.
use Rattle.std.proofs.Common.{◌≡◌, ℕ, zero, suc, ◌+◌, ◌<◌, ◌≤◌, Bool, true, false, ◌&&◌, ◌||◌, ◌⊎◌, List, [], ◌∷◌, ◌++◌, length, take, refl, sym, ap, ap₂, subst, true≢false, ◌∙◌, arith, le_of_suc-le-suc, not-suc-le-zero, inl, inr}
use Rattle.std.proofs.Math.Bool.{and-true, and_assoc, or_assoc, or-false}
use Rattle.std.proofs.lemmas.Bool.{and_parts, both_ways, cases_lt}
use Rattle.std.proofs.lemmas.Bool.Decides.{nat_tests}
use Rattle.std.proofs.lemmas.List.{take_more}
use Rattle.std.proofs.lemmas.List.Recursion.{or_at, or_from_places}
use Rattle.coverage.specs.Intervals.{Interval, max_sequence, in_interval, holds, interval_at, fits_from, rises_from, IsCanonical}
use Rattle.coverage.specs.steps.Starts.{last_start_or}

-- a number lies in an interval, below it or above it
pub in_interval_tells : (p : Interval) (n : ℕ) → ((in_interval p n ≡ true) × (p.0 ≤ n) × (n ≤ p.1)) ⊎ ((in_interval p n ≡ false) × ((n < p.0) ⊎ (p.1 < n)))
unfolding in_interval
in_interval_tells p n = grind (arith, nat_tests)

pub in_interval-true : (p : Interval) (n : ℕ) → p.0 ≤ n → n ≤ p.1 → in_interval p n ≡ true
in_interval-true p n low high = grind (arith, in_interval_tells p n)

pub in_interval-parts : (p : Interval) (n : ℕ) → in_interval p n ≡ true → (p.0 ≤ n) × (n ≤ p.1)
in_interval-parts p n h = elim (in_interval_tells p n) [ inl w ↦ (w.1, w.2) | inr w ↦ absurd (both_ways _ w.0 h) ]

pub holds-nil : (n : ℕ) → holds [] n ≡ false
unfolding holds
holds-nil n = refl

pub holds-cons : (p : Interval) (ps : List Interval) (n : ℕ) → holds (p ∷ ps) n ≡ (in_interval p n || holds ps n)
unfolding holds
holds-cons p ps n = refl

pub holds-append : (xs ys : List Interval) (n : ℕ) → holds (xs ++ ys) n ≡ (holds xs n || holds ys n)
unfolding holds
holds-append [] ys n = refl
holds-append (x ∷ xs) ys n =
    ap (λ b. in_interval x n || b) (holds-append xs ys n) ∙ sym (or_assoc (in_interval x n) (holds xs n) (holds ys n))

pub holds-push : (xs : List Interval) (p : Interval) (n : ℕ) → holds (xs ++ p ∷ []) n ≡ (holds xs n || in_interval p n)
unfolding holds
holds-push xs p n = holds-append xs (p ∷ []) n ∙ ap (λ b. holds xs n || b) (or-false (in_interval p n))

pub holds-more : (xs : List Interval) (i n : ℕ) → i < length xs → holds (take (i + 1) xs) n ≡ (holds (take i xs) n || in_interval (interval_at xs i) n)
holds-more xs i n h = ap (λ l. holds l n) (take_more xs i (0, 0) h) ∙ holds-push (take i xs) (interval_at xs i) n

pub holds-at : (ps : List Interval) (k n : ℕ) → k < length ps → in_interval (interval_at ps k) n ≡ true → holds ps n ≡ true
unfolding holds
holds-at ps k n h t = or_at (λ l. holds l n) (λ p. in_interval p n) refl (λ _ _. refl) ps k (0, 0) h t

pub holds-nowhere : (ps : List Interval) (n : ℕ) → ((k : ℕ) → k < length ps → in_interval (interval_at ps k) n ≡ false) → holds ps n ≡ false
unfolding holds
holds-nowhere ps n h = or_from_places (λ l. holds l n) (λ p. in_interval p n) refl (λ _ _. refl) ps (0, 0) h

outside : (p : Interval) (n : ℕ) → (n < p.0) ⊎ (p.1 < n) → in_interval p n ≡ false
outside p n h = grind (arith, in_interval_tells p n, h)

both_false : (a b : Bool) → a ≡ false → b ≡ false → (a || b) ≡ false
both_false a b h k = ap (λ x. x || b) h ∙ k

-- no interval holds a number that lies below the start or above the end of each
pub holds-outside : (ps : List Interval) (n : ℕ) → ((k : ℕ) → k < length ps → (n < (interval_at ps k).0) ⊎ ((interval_at ps k).1 < n)) → holds ps n ≡ false
holds-outside ps n h = holds-nowhere ps n (λ k hk. grind (arith, in_interval_tells (interval_at ps k) n, h k hk))

-- where an interval may start after these
unfoldable pub next_free : ℕ → List Interval → ℕ
next_free n [] = n
next_free n (p ∷ ps) = next_free (p.1 + 2) ps

pub next_free-nil : (n : ℕ) → next_free n [] ≡ n
unfolding next_free
next_free-nil n = refl

pub next_free-push : (n : ℕ) (xs : List Interval) (p : Interval) → next_free n (xs ++ p ∷ []) ≡ p.1 + 2
unfolding next_free
next_free-push n [] p = refl
next_free-push n (x ∷ xs) p = next_free-push (x.1 + 2) xs p

pub last_start_or-nil : (n : ℕ) → last_start_or n [] ≡ n
unfolding last_start_or
last_start_or-nil n = refl

pub last_start_or-push : (n : ℕ) (xs : List Interval) (p : Interval) → last_start_or n (xs ++ p ∷ []) ≡ p.0
unfolding last_start_or
last_start_or-push n [] p = refl
last_start_or-push n (x ∷ xs) p = last_start_or-push x.0 xs p

pub rises_from-nil : (n : ℕ) → rises_from n [] ≡ true
unfolding rises_from
rises_from-nil n = refl

pub rises_from-cons : (n : ℕ) (p : Interval) (ps : List Interval) → rises_from n (p ∷ ps) ≡ (fits_from n p && rises_from (p.1 + 2) ps)
unfolding rises_from
rises_from-cons n p ps = refl

pub rises_from-push : (n : ℕ) (xs : List Interval) (p : Interval) → rises_from n (xs ++ p ∷ []) ≡ (rises_from n xs && fits_from (next_free n xs) p)
unfolding rises_from next_free
rises_from-push n [] p = and-true (fits_from n p)
rises_from-push n (x ∷ xs) p =
    ap (λ b. fits_from n x && b) (rises_from-push (x.1 + 2) xs p)
    ∙ sym (and_assoc (fits_from n x) (rises_from (x.1 + 2) xs) (fits_from (next_free (x.1 + 2) xs) p))

pub fits_from-true : (n : ℕ) (p : Interval) → fits_from n p ≡ true → (n ≤ p.0) × (p.0 ≤ p.1) × (p.1 ≤ max_sequence)
fits_from-true n p h = grind (arith, nat_tests)

pub le-fits_from : (n : ℕ) (p : Interval) → n ≤ p.0 → p.0 ≤ p.1 → p.1 ≤ max_sequence → fits_from n p ≡ true
le-fits_from n p a b c = grind (arith, nat_tests)

pub rises_from-parts : (n : ℕ) (p : Interval) (ps : List Interval) → rises_from n (p ∷ ps) ≡ true → (fits_from n p ≡ true) × (rises_from (p.1 + 2) ps ≡ true)
unfolding rises_from
rises_from-parts n p ps h = and_parts _ _ h

pub rises_from-at : (n : ℕ) (ps : List Interval) (k : ℕ) → rises_from n ps ≡ true → k < length ps → (n ≤ (interval_at ps k).0) × ((interval_at ps k).0 ≤ (interval_at ps k).1) × ((interval_at ps k).1 ≤ max_sequence)
rises_from-at n [] k h hk = absurd (not-suc-le-zero hk)
rises_from-at n (p ∷ ps) zero h hk = fits_from-true n p (rises_from-parts n p ps h).0
rises_from-at n (p ∷ ps) (suc k) h hk =
    let parts = rises_from-parts n p ps h in
    let head = fits_from-true n p parts.0 in
    let rest = rises_from-at (p.1 + 2) ps k parts.1 (le_of_suc-le-suc hk) in
    (omega arith, rest.1, rest.2)

pub rises_from-gap : (n : ℕ) (ps : List Interval) (i j : ℕ) → rises_from n ps ≡ true → i < j → j < length ps → (interval_at ps i).1 + 1 < (interval_at ps j).0
rises_from-gap n [] i j h lt hj = absurd (not-suc-le-zero hj)
rises_from-gap n (p ∷ ps) zero zero h lt hj = absurd (not-suc-le-zero lt)
rises_from-gap n (p ∷ ps) (suc i) zero h lt hj = absurd (not-suc-le-zero lt)
rises_from-gap n (p ∷ ps) zero (suc j) h lt hj =
    let rest = rises_from-at (p.1 + 2) ps j (rises_from-parts n p ps h).1 (le_of_suc-le-suc hj) in
    omega arith
rises_from-gap n (p ∷ ps) (suc i) (suc j) h lt hj =
    rises_from-gap (p.1 + 2) ps i j (rises_from-parts n p ps h).1 (le_of_suc-le-suc lt) (le_of_suc-le-suc hj)

pub holds-below : (n : ℕ) (ps : List Interval) (c : ℕ) → rises_from n ps ≡ true → c < n → holds ps c ≡ false
holds-below n ps c h below = holds-outside ps c (λ k hk. inl (omega (arith, (rises_from-at n ps k h hk).0)))

pub first_is_held : (n : ℕ) (p : Interval) (ps : List Interval) → rises_from n (p ∷ ps) ≡ true → holds (p ∷ ps) p.0 ≡ true
first_is_held n p ps h =
    let fits = fits_from-true n p (rises_from-parts n p ps h).0 in
    holds-cons p ps p.0 ∙ ap (λ b. b || holds ps p.0) (in_interval-true p p.0 (omega arith) fits.1)

-- a canonical list that isn't empty holds some number
pub holds_first : (ps : List Interval) → (ps ≡ [] → ⊥) → IsCanonical ps → (n : ℕ) × (holds ps n ≡ true)
holds_first [] some h = absurd (some refl)
holds_first (p ∷ ps) some h = (p.0, first_is_held 1 p ps h)

-- ---- two canonical lists that hold the same numbers are one list

-- a run: the least number of which the test is true, and the last one before the next that fails it
record IsFirstRun (test : ℕ → Bool) (a b : ℕ) : Type 0 where
  none_before : (c : ℕ) → c < a → test c ≡ false
  all_within : (c : ℕ) → a ≤ c → c ≤ b → test c ≡ true
  not_after : test (b + 1) ≡ false
  not_empty : a ≤ b

clash : (b : Bool) → b ≡ true → b ≡ false → ⊥
clash b h k = true≢false (sym h ∙ k)

no_later : (test : ℕ → Bool) (a b c d : ℕ) → IsFirstRun test a b → IsFirstRun test c d → a ≤ c
no_later test a b c d one other = elim (cases_lt c a) [
  | inl lt ↦ absurd (clash (test c) (other.all_within c (omega arith) other.not_empty) (one.none_before c lt))
  | inr ge ↦ ge
]

no_longer : (test : ℕ → Bool) (a b d : ℕ) → IsFirstRun test a b → IsFirstRun test a d → d ≤ b
no_longer test a b d one other = elim (cases_lt b d) [
  | inl lt ↦ absurd (clash (test (b + 1)) (other.all_within (b + 1) (le_more a b one.not_empty) (omega arith)) one.not_after)
  | inr ge ↦ ge
]
  where
    le_more : (a b : ℕ) → a ≤ b → a ≤ b + 1
    le_more a b h = omega arith

-- the first interval is the first run
first_run : (n : ℕ) (p : Interval) (ps : List Interval) → rises_from n (p ∷ ps) ≡ true → IsFirstRun (holds (p ∷ ps)) p.0 p.1
first_run n p ps h =
    let parts = rises_from-parts n p ps h in
    let fits = fits_from-true n p parts.0 in record {
      none_before = λ c lt. holds-cons p ps c ∙ both_false _ _ (outside p c (inl lt)) (holds-below (p.1 + 2) ps c parts.1 (omega (arith, fits.1)));
      all_within = λ c low high. holds-cons p ps c ∙ ap (λ b. b || holds ps c) (in_interval-true p c low high);
      not_after = holds-cons p ps (p.1 + 1) ∙ both_false _ _ (outside p (p.1 + 1) (inr (omega arith))) (holds-below (p.1 + 2) ps (p.1 + 1) parts.1 (omega arith));
      not_empty = fits.1;
    }

-- the rest holds what comes behind the first interval
behind : (p : Interval) (ps : List Interval) (c : ℕ) → p.1 < c → holds ps c ≡ holds (p ∷ ps) c
behind p ps c lt = sym (holds-cons p ps c ∙ ap (λ b. b || holds ps c) (outside p c (inr lt)))

same_rest : (p : Interval) (xs ys : List Interval) → rises_from (p.1 + 2) xs ≡ true → rises_from (p.1 + 2) ys ≡ true → ((c : ℕ) → holds (p ∷ xs) c ≡ holds (p ∷ ys) c) → (c : ℕ) → holds xs c ≡ holds ys c
same_rest p xs ys hx hy same c = elim (cases_lt p.1 c) [
  | inl lt ↦ behind p xs c lt ∙ (same c ∙ sym (behind p ys c lt))
  | inr ge ↦ holds-below (p.1 + 2) xs c hx (omega arith) ∙ sym (holds-below (p.1 + 2) ys c hy (omega arith))
]

same_tests : (s t : ℕ → Bool) (a b : ℕ) → ((c : ℕ) → s c ≡ t c) → IsFirstRun s a b → IsFirstRun t a b
same_tests s t a b same run = record {
  none_before = λ c lt. sym (same c) ∙ run.none_before c lt;
  all_within = λ c low high. sym (same c) ∙ run.all_within c low high;
  not_after = sym (same (b + 1)) ∙ run.not_after;
  not_empty = run.not_empty;
}

one_run : (t : ℕ → Bool) (p q : Interval) → IsFirstRun t p.0 p.1 → IsFirstRun t q.0 q.1 → p ≡ q
one_run t p q one other =
    let low = no_later t p.0 p.1 q.0 q.1 one other in
    let high = no_later t q.0 q.1 p.0 p.1 other one in
    let starts : p.0 ≡ q.0 = omega (arith, low, high) in
    let moved : IsFirstRun t q.0 p.1 = subst (λ (a : ℕ). IsFirstRun t a p.1) starts one in
    let short = no_longer t q.0 p.1 q.1 moved other in
    let long = no_longer t q.0 q.1 p.1 other moved in
    let ends : p.1 ≡ q.1 = omega (arith, short, long) in
    ap₂ (λ (a b : ℕ). (a, b)) starts ends

alike : (n : ℕ) (xs ys : List Interval) → rises_from n xs ≡ true → rises_from n ys ≡ true → ((c : ℕ) → holds xs c ≡ holds ys c) → xs ≡ ys
alike n [] [] hx hy same = refl
alike n [] (y ∷ ys) hx hy same = absurd (clash (holds (y ∷ ys) y.0) (first_is_held n y ys hy) (sym (same y.0) ∙ holds-nil y.0))
alike n (x ∷ xs) [] hx hy same = absurd (clash (holds (x ∷ xs) x.0) (first_is_held n x xs hx) (same x.0 ∙ holds-nil x.0))
alike n (x ∷ xs) (y ∷ ys) hx hy same =
    let heads : x ≡ y = one_run (holds (y ∷ ys)) x y (same_tests (holds (x ∷ xs)) (holds (y ∷ ys)) x.0 x.1 same (first_run n x xs hx)) (first_run n y ys hy) in
    let tail_x : rises_from (x.1 + 2) xs ≡ true = (rises_from-parts n x xs hx).1 in
    let tail_y : rises_from (x.1 + 2) ys ≡ true = subst (λ (p : Interval). rises_from (p.1 + 2) ys ≡ true) (sym heads) (rises_from-parts n y ys hy).1 in
    let joint : (c : ℕ) → holds (x ∷ xs) c ≡ holds (x ∷ ys) c = λ c. same c ∙ ap (λ (p : Interval). holds (p ∷ ys) c) (sym heads) in
    ap (λ (p : Interval). p ∷ xs) heads ∙ ap (λ (r : List Interval). y ∷ r) (alike (x.1 + 2) xs ys tail_x tail_y (same_rest x xs ys tail_x tail_y joint))

pub same_numbers-same : (xs ys : List Interval) → IsCanonical xs → IsCanonical ys → ((n : ℕ) → holds xs n ≡ holds ys n) → xs ≡ ys
same_numbers-same xs ys hx hy same = alike 1 xs ys hx hy same
