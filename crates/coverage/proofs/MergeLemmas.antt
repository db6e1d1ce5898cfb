-- Passes over lists of intervals.
use Rattle.std.proofs.Common.{◌≡◌, ℕ, ◌+◌, ◌<◌, ◌≤◌, Bool, true, false, ◌||◌, max, List, [], ◌∷◌, ◌++◌, length, take, refl, sym, ap, ap₂, ◌∙◌, arith}
use Rattle.std.proofs.lemmas.Bool.{and_parts, and_from}
use Rattle.std.proofs.Math.Bool.{or_assoc}
use Rattle.coverage.specs.Intervals.{Interval, max_sequence, in_interval, holds, interval_at, fits_from, rises_from, IsCanonical}
use Rattle.coverage.specs.steps.Starts.{last_start_or, StartsAtMost}
use Rattle.coverage.proofs.HoldsLemmas.{in_interval_tells, holds-nil, holds-more, holds-push, next_free, next_free-nil, next_free-push, last_start_or-nil, last_start_or-push, rises_from-nil, rises_from-push, rises_from-at, rises_from-gap, fits_from-true, le-fits_from}

-- the list with an interval more that starts no earlier than those that are there
pub record IsExtended (old : List Interval) (p : Interval) (new : List Interval) : Type 0 where
  pub canonical : IsCanonical new
  pub members : (n : ℕ) → holds new n ≡ (holds old n || in_interval p n)
  pub starts : StartsAtMost new p.0

-- what a canonical list that ends with an interval says of the front and of that interval
pub record EndsWith (xs : List Interval) (last : Interval) : Type 0 where
  pub front : IsCanonical xs
  pub free : next_free 1 xs ≤ last.0
  pub ordered : last.0 ≤ last.1
  pub bounded : last.1 ≤ max_sequence

pub ends_with : (xs : List Interval) (last : Interval) → IsCanonical (xs ++ last ∷ []) → EndsWith xs last
ends_with xs last h =
    let both = and_parts (rises_from 1 xs) (fits_from (next_free 1 xs) last) (sym (rises_from-push 1 xs last) ∙ h) in
    let fits = fits_from-true (next_free 1 xs) last both.1 in
    record { front = both.0; free = fits.0; ordered = fits.1; bounded = fits.2 }

canonical-push : (xs : List Interval) (p : Interval) → EndsWith xs p → IsCanonical (xs ++ p ∷ [])
canonical-push xs p e = rises_from-push 1 xs p ∙ and_from (rises_from 1 xs) (fits_from (next_free 1 xs) p) e.front (le-fits_from (next_free 1 xs) p e.free e.ordered e.bounded)

last_start : (xs : List Interval) (p : Interval) (n : ℕ) → p.0 ≤ n → StartsAtMost (xs ++ p ∷ []) n
last_start xs p n low = omega (arith, last_start_or-push 0 xs p, low)

pub extended_first : (p : Interval) → 1 ≤ p.0 → p.0 ≤ p.1 → p.1 ≤ max_sequence → IsExtended [] p (p ∷ [])
extended_first p from ordered bounded = record {
  canonical = canonical-push [] p (record { front = rises_from-nil 1; free = omega (arith, next_free-nil 1, from); ordered = ordered; bounded = bounded });
  members = λ n. holds-push [] p n;
  starts = last_start [] p p.0 (omega arith);
}

pub extended_apart : (xs : List Interval) (last p : Interval) → IsCanonical (xs ++ last ∷ []) → last.1 + 1 < p.0 → p.0 ≤ p.1 → p.1 ≤ max_sequence → IsExtended (xs ++ last ∷ []) p ((xs ++ last ∷ []) ++ p ∷ [])
extended_apart xs last p h gap ordered bounded = record {
  canonical = canonical-push (xs ++ last ∷ []) p (record { front = h; free = omega (arith, next_free-push 1 xs last, gap); ordered = ordered; bounded = bounded });
  members = λ n. holds-push (xs ++ last ∷ []) p n;
  starts = last_start (xs ++ last ∷ []) p p.0 (omega arith);
}

-- two intervals that touch hold together what the one does from the earlier start to the later end
joined_holds : (last p : Interval) (m n : ℕ) → last.0 ≤ p.0 → p.0 ≤ last.1 + 1 → last.0 ≤ last.1 → p.0 ≤ p.1 → m ≡ max last.1 p.1 → in_interval (last.0, m) n ≡ (in_interval last n || in_interval p n)
joined_holds last p m n later touches some other e = grind (arith, in_interval_tells (last.0, m) n, in_interval_tells last n, in_interval_tells p n)

pub extended_joined : (xs : List Interval) (last p : Interval) (m : ℕ) → IsCanonical (xs ++ last ∷ []) → last.0 ≤ p.0 → p.0 ≤ last.1 + 1 → p.0 ≤ p.1 → p.1 ≤ max_sequence → m ≡ max last.1 p.1 → IsExtended (xs ++ last ∷ []) p (xs ++ (last.0, m) ∷ [])
extended_joined xs last p m h later touches ordered bounded e =
    let end = ends_with xs last h in record {
      canonical = canonical-push xs (last.0, m) (record { front = end.front; free = end.free; ordered = omega (arith, e, end.ordered); bounded = omega (arith, e, end.bounded) });
      members = λ n. holds-push xs (last.0, m) n
          ∙ (ap (λ b. holds xs n || b) (joined_holds last p m n later touches end.ordered ordered e)
          ∙ (sym (or_assoc (holds xs n) (in_interval last n) (in_interval p n))
          ∙ ap (λ b. b || in_interval p n) (sym (holds-push xs last n))));
      starts = last_start xs (last.0, m) p.0 later;
    }

-- the numbers of the first i intervals of one list and the first j of the other, of which none that
-- is left starts earlier
pub record IsMergedUpTo (xs ys : List Interval) (i j : ℕ) (both : List Interval) : Type 0 where
  pub first_in : i ≤ length xs
  pub second_in : j ≤ length ys
  pub canonical : IsCanonical both
  pub first_ahead : i < length xs → StartsAtMost both (interval_at xs i).0
  pub second_ahead : j < length ys → StartsAtMost both (interval_at ys j).0
  pub members : (n : ℕ) → holds both n ≡ (holds (take i xs) n || holds (take j ys) n)

or_swap : (x y z : Bool) → ((x || y) || z) ≡ ((x || z) || y)
or_swap true y z = refl
or_swap false true true = refl
or_swap false true false = refl
or_swap false false true = refl
or_swap false false false = refl

pub merged_none : (xs ys both : List Interval) → both ≡ [] → IsMergedUpTo xs ys 0 0 both
merged_none xs ys both e = record {
  first_in = omega arith;
  second_in = omega arith;
  canonical = ap (rises_from 1) e ∙ rises_from-nil 1;
  first_ahead = λ _. omega (arith, ap (last_start_or 0) e ∙ last_start_or-nil 0);
  second_ahead = λ _. omega (arith, ap (last_start_or 0) e ∙ last_start_or-nil 0);
  members = λ n. ap (λ l. holds l n) e ∙ holds-nil n ∙ sym (ap₂ (λ a b. a || b) (holds-nil n) (holds-nil n));
}

pub merged_first : (xs ys : List Interval) (i j : ℕ) (old new : List Interval) → IsCanonical xs → IsMergedUpTo xs ys i j old → i < length xs
    → (j < length ys → (interval_at xs i).0 ≤ (interval_at ys j).0) → IsCanonical new
    → ((n : ℕ) → holds new n ≡ (holds old n || in_interval (interval_at xs i) n)) → StartsAtMost new (interval_at xs i).0 → IsMergedUpTo xs ys (i + 1) j new
merged_first xs ys i j old new h m hi next canonical members starts = record {
  first_in = omega arith;
  second_in = m.second_in;
  canonical = canonical;
  first_ahead = λ lt.
      let gap = rises_from-gap 1 xs i (i + 1) h (omega arith) lt in
      let own = rises_from-at 1 xs i h hi in
      omega arith;
  second_ahead = λ lt. let le = next lt in omega arith;
  members = λ n. members n ∙ ap (λ b. b || in_interval (interval_at xs i) n) (m.members n)
      ∙ or_swap (holds (take i xs) n) (holds (take j ys) n) (in_interval (interval_at xs i) n)
      ∙ ap (λ b. b || holds (take j ys) n) (sym (holds-more xs i n hi));
}

pub merged_second : (xs ys : List Interval) (i j : ℕ) (old new : List Interval) → IsCanonical ys → IsMergedUpTo xs ys i j old → j < length ys
    → (i < length xs → (interval_at ys j).0 ≤ (interval_at xs i).0) → IsCanonical new
    → ((n : ℕ) → holds new n ≡ (holds old n || in_interval (interval_at ys j) n)) → StartsAtMost new (interval_at ys j).0 → IsMergedUpTo xs ys i (j + 1) new
merged_second xs ys i j old new h m hj next canonical members starts = record {
  first_in = m.first_in;
  second_in = omega arith;
  canonical = canonical;
  first_ahead = λ lt. let le = next lt in omega arith;
  second_ahead = λ lt.
      let gap = rises_from-gap 1 ys j (j + 1) h (omega arith) lt in
      let own = rises_from-at 1 ys j h hj in
      omega arith;
  members = λ n. members n ∙ ap (λ b. b || in_interval (interval_at ys j) n) (m.members n)
      ∙ or_assoc (holds (take i xs) n) (holds (take j ys) n) (in_interval (interval_at ys j) n)
      ∙ ap (λ b. holds (take i xs) n || b) (sym (holds-more ys j n hj));
}
