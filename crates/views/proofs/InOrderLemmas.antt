-- Lists in order, each item once: what they have, and that they rise.
use Rattle.std.proofs.Common.{◌≡◌, List, [], ◌∷◌, ◌++◌, Bool, true, false, ◌||◌, refl, sym, ap, ◌∙◌}
use Rattle.std.specs.declared.cmp.Ordering.{Ordering}
use Rattle.std.specs.declared.cmp.Ordering.TheVariants.{Less, Equal, Greater}
use Rattle.std.specs.Ordering.{is_eq, ordering_reverse, match_ordering}
use Rattle.std.specs.Cmp.{IsTotalOrder}
use Rattle.std.specs.List.{AllByRecursion}
use Rattle.std.specs.List.Sorted.{IsStrictlySortedBy}
use Rattle.std.specs.BTreeSet.{insert_key}
use Rattle.std.proofs.lemmas.Cmp.{alike_right}
use Rattle.inbox.specs.Ordered.{has, add_all, in_order}

module _ {K : Type 0} {R : K → K → Ordering} (o : IsTotalOrder R) where
  later_too : (k y : K) → R k y ≡ Less → (ys : List K) → AllByRecursion (λ z. R y z ≡ Less) ys → AllByRecursion (λ z. R k z ≡ Less) ys
  later_too k y e [] a = tt
  later_too k y e (z ∷ zs) a = (o.trans k y z e a.0, later_too k y e zs a.1)

  all-insert_key : (P : K → Type 0) (ks : List K) (k : K) → AllByRecursion P ks → P k → AllByRecursion P (insert_key R ks k)
  all-insert_key P [] k a p = (p, tt)
  all-insert_key P (y ∷ ys) k a p =
      elim (R k y) as (λ r. AllByRecursion P (match_ordering r (k ∷ y ∷ ys) (y ∷ ys) (y ∷ insert_key R ys k))) [
        | Less ↦ (p, a)
        | Equal ↦ a
        | Greater ↦ (a.0, all-insert_key P ys k a.1 p)
      ]

  sorted-insert_key : (ks : List K) (k : K) → IsStrictlySortedBy R ks → IsStrictlySortedBy R (insert_key R ks k)
  unfolding IsStrictlySortedBy
  sorted-insert_key [] k s = (tt, tt)
  sorted-insert_key (y ∷ ys) k s =
      elim (R k y) as (λ r. R k y ≡ r → IsStrictlySortedBy R (match_ordering r (k ∷ y ∷ ys) (y ∷ ys) (y ∷ insert_key R ys k))) [
        | Less ↦ λ e. ((e, later_too k y e ys s.0), s)
        | Equal ↦ λ e. s
        | Greater ↦ λ e. (all-insert_key (λ z. R y z ≡ Less) ys k s.0 (o.antisymm y k ∙ ap ordering_reverse e), sorted-insert_key ys k s.1)
      ] refl

  sorted-add_all : (ks xs : List K) → IsStrictlySortedBy R ks → IsStrictlySortedBy R (add_all R ks xs)
  sorted-add_all ks [] s = s
  sorted-add_all ks (x ∷ xs) s = sorted-add_all (insert_key R ks x) xs (sorted-insert_key ks x s)

  pub sorted-in_order : (xs : List K) → IsStrictlySortedBy R (in_order R xs)
  unfolding IsStrictlySortedBy
  sorted-in_order xs = sorted-add_all [] xs tt

  or_swap : (a b c : Bool) → (a || (b || c)) ≡ (b || (a || c))
  or_swap true true c = refl
  or_swap true false c = refl
  or_swap false b c = refl

  or_twice : (b c : Bool) → (b || c) ≡ (b || (b || c))
  or_twice true c = refl
  or_twice false c = refl

  has-insert_key : (ks : List K) (k x : K) → has R (insert_key R ks k) x ≡ (is_eq (R x k) || has R ks x)
  has-insert_key [] k x = refl
  has-insert_key (y ∷ ys) k x =
      elim (R k y) as (λ r. R k y ≡ r → has R (match_ordering r (k ∷ y ∷ ys) (y ∷ ys) (y ∷ insert_key R ys k)) x ≡ (is_eq (R x k) || (is_eq (R x y) || has R ys x))) [
        | Less ↦ λ e. refl
        | Equal ↦ λ e. or_twice (is_eq (R x y)) (has R ys x) ∙ ap (λ r. is_eq r || (is_eq (R x y) || has R ys x)) (sym (alike_right o k y x e))
        | Greater ↦ λ e. ap (λ b. is_eq (R x y) || b) (has-insert_key ys k x) ∙ or_swap (is_eq (R x y)) (is_eq (R x k)) (has R ys x)
      ] refl

  has-add_all : (ks xs : List K) (x : K) → has R (add_all R ks xs) x ≡ (has R ks x || has R xs x)
  has-add_all ks [] x = sym (or_none (has R ks x))
    where
      or_none : (a : Bool) → (a || false) ≡ a
      or_none true = refl
      or_none false = refl
  has-add_all ks (y ∷ ys) x =
      has-add_all (insert_key R ks y) ys x ∙ ap (λ b. b || has R ys x) (has-insert_key ks y x) ∙ regroup (is_eq (R x y)) (has R ks x) (has R ys x)
    where
      regroup : (a b c : Bool) → ((a || b) || c) ≡ (b || (a || c))
      regroup true true c = refl
      regroup true false c = refl
      regroup false b c = refl

  pub has-in_order : (xs : List K) (x : K) → has R (in_order R xs) x ≡ has R xs x
  has-in_order xs x = has-add_all [] xs x

  add_all-append : (ks xs ys : List K) → add_all R ks (xs ++ ys) ≡ add_all R (add_all R ks xs) ys
  add_all-append ks [] ys = refl
  add_all-append ks (x ∷ xs) ys = add_all-append (insert_key R ks x) xs ys

  pub in_order-push : (xs : List K) (x : K) → in_order R (xs ++ x ∷ []) ≡ insert_key R (in_order R xs) x
  in_order-push xs x = add_all-append [] xs (x ∷ [])
