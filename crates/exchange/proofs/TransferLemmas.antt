-- Events that go a page at a time.
use Rattle.std.proofs.Common.{◌≡◌, ℕ, suc, ◌+◌, ◌≤◌, List, [], ◌∷◌, ◌++◌, Bool, true, false, cond, filter, length, take, drop, if◌then◌else◌, Some, slice_get, refl, sym, ap, ap₂, ◌∙◌, arith, length-append}
use Rattle.std.specs.declared.cmp.Ordering.{Ordering}
use Rattle.std.specs.BTreeSet.{insert_key}
use Rattle.std.proofs.lemmas.List.{drop-take, length-take, take-append-drop, take-take, take_min, take_more}
use Rattle.std.proofs.lemmas.Option.{get_or_from_slice_get, slice_get_within}
use Rattle.inbox.specs.Ordered.{add_all, append_new, has}

pub length-filter : {X : Type 0} (p : X → Bool) (xs : List X) → length (filter p xs) ≤ length xs
length-filter p [] = omega arith
length-filter p (x ∷ xs) = elim (p x) as (λ b. length (cond b (x ∷ filter p xs) (filter p xs)) ≤ suc (length xs)) [
  | true ↦ omega (arith, length-filter p xs)
  | false ↦ omega (arith, length-filter p xs)
]

-- a front and the item behind it
pub take_next : {X : Type 0} (L : List X) (i : ℕ) (x : X) → slice_get L i ≡ Some x → take (i + 1) L ≡ take i L ++ x ∷ []
take_next L i x h = take_more L i x (slice_get_within L i x h) ∙ ap (λ z. take i L ++ z ∷ []) (get_or_from_slice_get L i x x h)

-- a page is as many of the first items as it has
pub take_counted : {X : Type 0} (D events : List X) (limit n : ℕ) → events ≡ take limit D → n ≡ length events → events ≡ take n D
take_counted D events limit n is counted =
    is ∙ sym (ap (λ k. take k D) (counted ∙ ap length is ∙ length-take limit D) ∙ take_min limit D)

module _ {K : Type 0} (R : K → K → Ordering) where
  append_new-append : (A xs ys : List K) → append_new R A (xs ++ ys) ≡ append_new R (append_new R A xs) ys
  append_new-append A [] ys = refl
  append_new-append A (x ∷ xs) ys = append_new-append (if has R A x then A else A ++ x ∷ []) xs ys

  pub add_all-append : (E xs ys : List K) → add_all R E (xs ++ ys) ≡ add_all R (add_all R E xs) ys
  add_all-append E [] ys = refl
  add_all-append E (x ∷ xs) ys = add_all-append (insert_key R E x) xs ys

  -- how many items arrive
  pub length-append_new : (A xs : List K) → (length A ≤ length (append_new R A xs)) × (length (append_new R A xs) ≤ length A + length xs)
  length-append_new A [] = (omega arith, omega arith)
  length-append_new A (x ∷ xs) =
      elim (has R A x) as (λ b. (length A ≤ length (append_new R (if b then A else A ++ x ∷ []) xs)) × (length (append_new R (if b then A else A ++ x ∷ []) xs) ≤ length A + suc (length xs))) [
        | true ↦ let h = length-append_new A xs in (h.0, omega (arith, h.1))
        | false ↦ let h = length-append_new (A ++ x ∷ []) xs in (omega (arith, h.0, length-append A (x ∷ [])), omega (arith, h.1, length-append A (x ∷ [])))
      ]

  take_on : (L : List K) (i n : ℕ) → take (i + n) L ≡ take i L ++ take n (drop i L)
  take_on L i n = sym (take-append-drop i (take (i + n) L)) ∙ ap₂ (λ x y. x ++ y) (take-take i (i + n) L (omega arith)) (drop-take i n L)

  -- n more items of a list, whose first i came before
  pub arrivals_on : (A B L M : List K) (i n : ℕ) (C : List K) → B ≡ append_new R A (take i L) → M ≡ drop i L → C ≡ append_new R B (take n M) → C ≡ append_new R A (take (i + n) L)
  arrivals_on A B L M i n C b m c = c ∙ ap₂ (λ z y. append_new R z (take n y)) b m ∙ sym (ap (append_new R A) (take_on L i n) ∙ append_new-append A (take i L) (take n (drop i L)))

  pub set_on : (E F L M : List K) (i n : ℕ) (G : List K) → F ≡ add_all R E (take i L) → M ≡ drop i L → G ≡ add_all R F (take n M) → G ≡ add_all R E (take (i + n) L)
  set_on E F L M i n G f m g = g ∙ ap₂ (λ z y. add_all R z (take n y)) f m ∙ sym (ap (add_all R E) (take_on L i n) ∙ add_all-append E (take i L) (take n (drop i L)))
