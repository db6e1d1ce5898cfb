-- Lists in order with one more item: what is counted, and what passes.
use Rattle.std.proofs.Common.{◌≡◌, ◌≢◌, ℕ, zero, suc, ◌+◌, List, [], ◌∷◌, Bool, true, false, ◌||◌, ◌&&◌, cond, filter, refl, sym, ap, ap₂, ◌∙◌, arith, Some, slice_get}
use Rattle.std.specs.Prelude.{count_by}
use Rattle.std.specs.declared.cmp.Ordering.{Ordering}
use Rattle.std.specs.declared.cmp.Ordering.TheVariants.{Less, Equal, Greater}
use Rattle.std.specs.Ordering.{is_eq, match_ordering}
use Rattle.std.specs.Cmp.{IsTotalOrder}
use Rattle.std.specs.List.{AllByRecursion, list_any}
use Rattle.std.specs.List.Sorted.{IsStrictlySortedBy}
use Rattle.std.specs.BTreeSet.{insert_key}
use Rattle.std.proofs.lemmas.List.Sums.{sum_by-cons}
use mathlib.Core.Bool.{true≢false}
use Rattle.inbox.specs.Ordered.{has}
use Rattle.inbox.proofs.SetLemmas.{turned}

-- ---- what holds of each item
pub all_at : {X : Type 0} (P : X → Type 0) (xs : List X) (k : ℕ) (x : X) → AllByRecursion P xs → slice_get xs k ≡ Some x → P x
all_at P [] k x a h = absurd (cc)
all_at P (y ∷ ys) zero x a h = let same : y ≡ x = cc in rw (← same) a.0
all_at P (y ∷ ys) (suc k) x a h = all_at P ys k x a.1 h

pub each_at : {X : Type 0} (P : X → Type 0) (xs : List X) → ((k : ℕ) (x : X) → slice_get xs k ≡ Some x → P x) → AllByRecursion P xs
each_at P [] f = tt
each_at P (x ∷ xs) f = (f 0 x refl, each_at P xs (λ k y h. f (suc k) y h))

pub any_false : {X : Type 0} (q : X → Bool) (xs : List X) → list_any q xs ≡ false → AllByRecursion (λ x. q x ≡ false) xs
any_false q [] h = tt
any_false q (x ∷ xs) h = elim (q x) as (λ b. q x ≡ b → (b || list_any q xs) ≡ false → AllByRecursion (λ x. q x ≡ false) (x ∷ xs)) [
  | true ↦ λ is h. absurd (true≢false h)
  | false ↦ λ is h. (is, any_false q xs h)
] refl h

pub none_passes : {X : Type 0} (q : X → Bool) (xs : List X) → AllByRecursion (λ x. q x ≡ false) xs → list_any q xs ≡ false
none_passes q [] a = refl
none_passes q (x ∷ xs) a = ap (λ b. b || list_any q xs) a.0 ∙ none_passes q xs a.1

pub one_passes : {X : Type 0} (q : X → Bool) (xs : List X) (k : ℕ) (x : X) → slice_get xs k ≡ Some x → q x ≡ true → list_any q xs ≡ true
one_passes q [] k x h t = absurd (cc)
one_passes q (y ∷ ys) zero x h t = let same : y ≡ x = cc in ap (λ b. b || list_any q ys) (ap q same ∙ t)
one_passes q (y ∷ ys) (suc k) x h t = or_true (q y) (list_any q ys) (one_passes q ys k x h t)
  where
    or_true : (a b : Bool) → b ≡ true → (a || b) ≡ true
    or_true true b e = refl
    or_true false b e = e

-- ---- counts
pub count_alike : {X : Type 0} (p q : X → Bool) (xs : List X) → AllByRecursion (λ x. p x ≡ q x) xs → count_by p xs ≡ count_by q xs
count_alike p q [] a = refl
count_alike p q (x ∷ xs) a =
    sum_by-cons (λ x. cond (p x) 1 0) x xs ∙ ap₂ (λ (b : Bool) (n : ℕ). cond b 1 0 + n) a.0 (count_alike p q xs a.1) ∙ sym (sum_by-cons (λ x. cond (q x) 1 0) x xs)

pub count_filter : {X : Type 0} (p q : X → Bool) (xs : List X) → count_by q (filter p xs) ≡ count_by (λ x. p x && q x) xs
count_filter p q [] = refl
count_filter p q (x ∷ xs) =
    elim (p x) as (λ b. count_by q (cond b (x ∷ filter p xs) (filter p xs)) ≡ cond (b && q x) 1 0 + count_by (λ x. p x && q x) xs) [
      | true ↦ sum_by-cons (λ x. cond (q x) 1 0) x (filter p xs) ∙ ap (λ n. cond (q x) 1 0 + n) (count_filter p q xs)
      | false ↦ count_filter p q xs ∙ omega arith
    ]
    ∙ sym (sum_by-cons (λ x. cond (p x && q x) 1 0) x xs)

or_swap : (a b c : Bool) → (a || (b || c)) ≡ (b || (a || c))
or_swap true true c = refl
or_swap true false c = refl
or_swap false b c = refl

module _ {K : Type 0} (R : K → K → Ordering) where
  -- ---- an item that was not there goes in
  pub any_inserted : (P : K → Bool) (E : List K) (e : K) → has R E e ≡ false → list_any P (insert_key R E e) ≡ (P e || list_any P E)
  any_inserted P [] e h = refl
  any_inserted P (x ∷ xs) e h =
      elim (R e x) as (λ r. (is_eq r || has R xs e) ≡ false → list_any P (match_ordering r (e ∷ x ∷ xs) (x ∷ xs) (x ∷ insert_key R xs e)) ≡ (P e || (P x || list_any P xs))) [
        | Less ↦ λ h. refl
        | Equal ↦ λ h. absurd (true≢false h)
        | Greater ↦ λ h. ap (λ b. P x || b) (any_inserted P xs e h) ∙ or_swap (P x) (P e) (list_any P xs)
      ] h

  pub count_inserted : (p : K → Bool) (E : List K) (e : K) → has R E e ≡ false → count_by p (insert_key R E e) ≡ cond (p e) 1 0 + count_by p E
  count_inserted p [] e h = sum_by-cons (λ x. cond (p x) 1 0) e []
  count_inserted p (x ∷ xs) e h =
      elim (R e x) as (λ r. (is_eq r || has R xs e) ≡ false → count_by p (match_ordering r (e ∷ x ∷ xs) (x ∷ xs) (x ∷ insert_key R xs e)) ≡ cond (p e) 1 0 + count_by p (x ∷ xs)) [
        | Less ↦ λ h. sum_by-cons (λ x. cond (p x) 1 0) e (x ∷ xs)
        | Equal ↦ λ h. absurd (true≢false h)
        | Greater ↦ λ h.
            let first : count_by p (x ∷ insert_key R xs e) ≡ cond (p x) 1 0 + count_by p (insert_key R xs e) = sum_by-cons (λ x. cond (p x) 1 0) x (insert_key R xs e) in
            let rest : count_by p (insert_key R xs e) ≡ cond (p e) 1 0 + count_by p xs = count_inserted p xs e h in
            let there : count_by p (x ∷ xs) ≡ cond (p x) 1 0 + count_by p xs = sum_by-cons (λ x. cond (p x) 1 0) x xs in
            omega (arith, first, rest, there)
      ] h

  -- ---- all but one pass both tests or neither
  all_apart : IsTotalOrder R → (x : K) (xs : List K) (P : K → Type 0) → AllByRecursion (λ y. R x y ≡ Less) xs → ((k : ℕ) (y : K) → slice_get xs k ≡ Some y → R y x ≢ Equal → P y) → AllByRecursion P xs
  all_apart o x xs P a f = each_at P xs (λ k y h. f k y h (λ e. let greater : R y x ≡ Greater = turned o x y (all_at (λ y. R x y ≡ Less) xs k y a h) in absurd (cc)))

  pub one_out : IsTotalOrder R → (p q : K → Bool) (E : List K) (k : ℕ) (o : K) → IsStrictlySortedBy R E → slice_get E k ≡ Some o → p o ≡ false
      → ((i : ℕ) (x : K) → slice_get E i ≡ Some x → R x o ≢ Equal → p x ≡ q x) → count_by p E + cond (q o) 1 0 ≡ count_by q E
  unfolding IsStrictlySortedBy
  one_out t p q [] k o s h out f = absurd (cc)
  one_out t p q (x ∷ xs) zero o s h out f =
      let same : x ≡ o = cc in
      let rest : count_by p xs ≡ count_by q xs = count_alike p q xs (all_apart t x xs (λ y. p y ≡ q y) s.0 (λ i y g n. f (suc i) y g (rw (← same) n))) in
      let left : count_by p (x ∷ xs) ≡ cond (p x) 1 0 + count_by p xs = sum_by-cons (λ x. cond (p x) 1 0) x xs in
      let right : count_by q (x ∷ xs) ≡ cond (q x) 1 0 + count_by q xs = sum_by-cons (λ x. cond (q x) 1 0) x xs in
      let gone : ◌≡◌ {A = ℕ} (cond (p x) 1 0) 0 = ap (λ y. cond (p y) 1 0) same ∙ ap (λ b. cond b 1 0) out in
      let here : ◌≡◌ {A = ℕ} (cond (q x) 1 0) (cond (q o) 1 0) = ap (λ y. cond (q y) 1 0) same in
      omega (arith, rest, left, right, gone, here)
  one_out t p q (x ∷ xs) (suc k) o s h out f =
      let less : R x o ≡ Less = all_at (λ y. R x y ≡ Less) xs k o s.0 h in
      let first : p x ≡ q x = f 0 x refl (λ e. absurd (cc)) in
      let rest : count_by p xs + cond (q o) 1 0 ≡ count_by q xs = one_out t p q xs k o s.1 h out (λ i y g n. f (suc i) y g n) in
      let left : count_by p (x ∷ xs) ≡ cond (p x) 1 0 + count_by p xs = sum_by-cons (λ x. cond (p x) 1 0) x xs in
      let right : count_by q (x ∷ xs) ≡ cond (q x) 1 0 + count_by q xs = sum_by-cons (λ x. cond (q x) 1 0) x xs in
      let here : ◌≡◌ {A = ℕ} (cond (p x) 1 0) (cond (q x) 1 0) = ap (λ b. cond b 1 0) first in
      omega (arith, rest, left, right, here)
