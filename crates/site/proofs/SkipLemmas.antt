-- What stands behind a place of a set stays behind it as the set grows.
use Rattle.std.proofs.Common.{◌≡◌, ℕ, zero, suc, List, [], ◌∷◌, ◌++◌, ◌⊎◌, take, true, sym, ap, ◌∙◌, subst, arith, inl, inr}
use Rattle.std.specs.Prelude.{Contains}
use Rattle.std.specs.declared.cmp.Ordering.{Ordering}
use Rattle.std.specs.declared.cmp.Ordering.TheVariants.{Less, Equal, Greater}
use Rattle.std.specs.Ordering.{match_ordering}
use Rattle.std.specs.BTreeSet.{insert_key}
use Rattle.std.proofs.lemmas.List.{length-take}
use Rattle.attributes.specs.Event.{EventValue}
use Rattle.inbox.specs.KeyOrder.{key_cmp}
use Rattle.inbox.specs.Laws.{SetLaws}
use Rattle.inbox.specs.Ordered.{has}
use Rattle.inbox.specs.Sets.{set_of, union}
use Rattle.site.proofs.TakeLemmas.{add_all-append}

module _ {K : Type 0} where
  behind_first : (x : K) (xs : List K) (y : K) → Contains xs y → Contains (x ∷ xs) y
  behind_first x xs y c = (suc c.0, omega (arith, c.1), c.2)

  first_or_behind : (x : K) (xs : List K) (y : K) → Contains (x ∷ xs) y → (y ≡ x) ⊎ Contains xs y
  first_or_behind x xs y (zero, l, e) = inl (sym e)
  first_or_behind x xs y (suc k, l, e) = inr (k, omega (arith, l), e)

  none_there : (n : ℕ) (y : K) → Contains (take n []) y → ⊥
  none_there n y c = absurd (omega (arith, c.1, length-take {A = K} n []))

  -- a longer front has what a shorter one has
  front_longer : (n : ℕ) (L : List K) (y : K) → Contains (take n L) y → Contains (take (suc n) L) y
  front_longer zero L y c = absurd (omega (arith, c.1))
  front_longer (suc n) [] y c = absurd (none_there (suc n) y c)
  front_longer (suc n) (x ∷ xs) y c = elim (first_or_behind x (take n xs) y c) [
    | inl e ↦ (0, omega arith, sym e)
    | inr d ↦ behind_first x (take (suc n) xs) y (front_longer n xs y d)
  ]

  module _ (R : K → K → Ordering) where
    -- what stands in front after an insert is the new one, or stood there
    in_front : (n : ℕ) (E : List K) (x y : K) → Contains (take n (insert_key R E x)) y → (y ≡ x) ⊎ Contains (take n E) y
    in_front zero E x y c = absurd (omega (arith, c.1))
    in_front (suc n) [] x y c = elim (first_or_behind x (take n []) y c) [
      | inl e ↦ inl e
      | inr d ↦ absurd (none_there n y d)
    ]
    in_front (suc n) (z ∷ zs) x y c =
        elim (R x z) as (λ r. Contains (take (suc n) (match_ordering r (x ∷ z ∷ zs) (z ∷ zs) (z ∷ insert_key R zs x))) y → (y ≡ x) ⊎ Contains (take (suc n) (z ∷ zs)) y) [
          | Less ↦ λ d. elim (first_or_behind x (take n (z ∷ zs)) y d) [
            | inl e ↦ inl e
            | inr f ↦ inr (front_longer n (z ∷ zs) y f)
          ]
          | Equal ↦ λ d. inr d
          | Greater ↦ λ d. elim (first_or_behind z (take n (insert_key R zs x)) y d) [
            | inl e ↦ inr (0, omega arith, sym e)
            | inr f ↦ elim (in_front n zs x y f) [
              | inl e ↦ inl e
              | inr g ↦ inr (behind_first z (take n zs) y g)
            ]
          ]
        ] c

    still_there : (E : List K) (x y : K) → Contains E y → Contains (insert_key R E x) y
    still_there [] x y c = absurd (omega (arith, c.1))
    still_there (z ∷ zs) x y c =
        elim (R x z) as (λ r. Contains (match_ordering r (x ∷ z ∷ zs) (z ∷ zs) (z ∷ insert_key R zs x)) y) [
          | Less ↦ behind_first x (z ∷ zs) y c
          | Equal ↦ c
          | Greater ↦ elim (first_or_behind z zs y c) [
            | inl e ↦ (0, omega arith, sym e)
            | inr d ↦ behind_first z (insert_key R zs x) y (still_there zs x y d)
          ]
        ]

pub still_behind : SetLaws → (A M : List EventValue) (n : ℕ) (e : EventValue) → Contains (set_of A) e → (Contains (take n (set_of A)) e → ⊥) → Contains (take n (union (set_of A) M)) e → ⊥
still_behind sets A [] n e there not now = not now
still_behind sets A (x ∷ xs) n e there not now =
    let grown : set_of (A ++ x ∷ []) ≡ insert_key key_cmp (set_of A) x = add_all-append key_cmp [] A (x ∷ []) in
    still_behind sets (A ++ x ∷ []) xs n e
    (subst (λ E. Contains E e) (sym grown) (still_there key_cmp (set_of A) x e there))
    (λ d. elim (in_front key_cmp n (set_of A) x e (subst (λ E. Contains (take n E) e) grown d)) [
      | inl same ↦
          let known : has key_cmp A x ≡ true = sym (sets.members A x) ∙ ap (has key_cmp (set_of A)) (sym same) ∙ sets.is_found (set_of A) e there in
          not (subst (λ E. Contains (take n E) e) (grown ∙ sym (sets.again A x known)) d)
      | inr before ↦ not before
    ])
    (subst (λ E. Contains (take n (union E xs)) e) (sym grown) now)
