-- Sets as lists in order: what they have, that they rise, and that they depend on what they have alone.
use Rattle.std.proofs.Common.{◌≡◌, suc, ◌+◌, ◌≤◌, List, [], ◌∷◌, ◌++◌, Bool, true, false, ◌||◌, length, if◌then◌else◌, refl, sym, ap, ◌∙◌, arith, length-append}
use Rattle.std.specs.declared.cmp.Ordering.{Ordering}
use Rattle.std.specs.declared.cmp.Ordering.TheVariants.{Less, Equal, Greater}
use Rattle.std.specs.Ordering.{is_eq, ordering_reverse, match_ordering}
use Rattle.std.specs.Cmp.{IsTotalOrder}
use Rattle.std.specs.List.{AllByRecursion, Contains}
use Rattle.std.specs.List.Sorted.{IsStrictlySortedBy}
use Rattle.std.specs.BTreeSet.{insert_key}
use Rattle.std.proofs.lemmas.Cmp.{tied_itself}
use Rattle.std.proofs.lemmas.List.Folds.{list_any_at}
use mathlib.Core.Bool.{true≢false}
use Rattle.inbox.specs.Ordered.{has, add_all, in_order, append_new}

or_swap : (a b c : Bool) → (a || (b || c)) ≡ (b || (a || c))
or_swap true true c = refl
or_swap true false c = refl
or_swap false b c = refl

or_twice : (b c : Bool) → (b || c) ≡ (b || (b || c))
or_twice true c = refl
or_twice false c = refl

or_regroup : (a b c : Bool) → ((a || b) || c) ≡ (b || (a || c))
or_regroup true true c = refl
or_regroup true false c = refl
or_regroup false b c = refl

or-false : (a : Bool) → (a || false) ≡ a
or-false true = refl
or-false false = refl

not_equal : (r : Ordering) → (r ≡ Equal → ⊥) → is_eq r ≡ false
not_equal Less h = refl
not_equal Equal h = absurd (h refl)
not_equal Greater h = refl

all_map : {K : Type 0} (P Q : K → Type 0) → ((y : K) → P y → Q y) → (ks : List K) → AllByRecursion P ks → AllByRecursion Q ks
all_map P Q f [] a = tt
all_map P Q f (y ∷ ys) a = (f y a.0, all_map P Q f ys a.1)

pub all_append : {K : Type 0} (P : K → Type 0) (xs ys : List K) → AllByRecursion P xs → AllByRecursion P ys → AllByRecursion P (xs ++ ys)
all_append P [] ys a b = b
all_append P (x ∷ xs) ys a b = (a.0, all_append P xs ys a.1 b)

module _ {K : Type 0} {R : K → K → Ordering} (o : IsTotalOrder R) where
  -- the other way round
  pub turned : (x y : K) → R x y ≡ Less → R y x ≡ Greater
  turned x y e = o.antisymm y x ∙ ap ordering_reverse e

  pub turned_back : (x y : K) → R x y ≡ Greater → R y x ≡ Less
  turned_back x y e = o.antisymm y x ∙ ap ordering_reverse e

  pub tied_back : (x y : K) → R x y ≡ Equal → R y x ≡ Equal
  tied_back x y e = o.antisymm y x ∙ ap ordering_reverse e

  pub alike_right : (x y z : K) → R x y ≡ Equal → R z x ≡ R z y
  alike_right x y z e = o.antisymm z x ∙ ap ordering_reverse (o.congr x y z e) ∙ sym (o.antisymm z y)

  -- what a set with one more item has
  pub has-insert_key : (E : List K) (k x : K) → has R (insert_key R E k) x ≡ (is_eq (R x k) || has R E x)
  has-insert_key [] k x = refl
  has-insert_key (y ∷ ys) k x =
      elim (R k y) as (λ r. R k y ≡ r → has R (match_ordering r (k ∷ y ∷ ys) (y ∷ ys) (y ∷ insert_key R ys k)) x ≡ (is_eq (R x k) || (is_eq (R x y) || has R ys x))) [
        | Less ↦ λ e. refl
        | Equal ↦ λ e. or_twice (is_eq (R x y)) (has R ys x) ∙ ap (λ r. is_eq r || (is_eq (R x y) || has R ys x)) (sym (alike_right k y x e))
        | Greater ↦ λ e. ap (λ b. is_eq (R x y) || b) (has-insert_key ys k x) ∙ or_swap (is_eq (R x y)) (is_eq (R x k)) (has R ys x)
      ] refl

  pub all-insert_key : (P : K → Type 0) (E : List K) (k : K) → AllByRecursion P E → P k → AllByRecursion P (insert_key R E k)
  all-insert_key P [] k a p = (p, tt)
  all-insert_key P (y ∷ ys) k a p =
      elim (R k y) as (λ r. AllByRecursion P (match_ordering r (k ∷ y ∷ ys) (y ∷ ys) (y ∷ insert_key R ys k))) [
        | Less ↦ (p, a)
        | Equal ↦ a
        | Greater ↦ (a.0, all-insert_key P ys k a.1 p)
      ]

  pub sorted-insert_key : (E : List K) (k : K) → IsStrictlySortedBy R E → IsStrictlySortedBy R (insert_key R E k)
  unfolding IsStrictlySortedBy
  sorted-insert_key [] k s = (tt, tt)
  sorted-insert_key (y ∷ ys) k s =
      elim (R k y) as (λ r. R k y ≡ r → IsStrictlySortedBy R (match_ordering r (k ∷ y ∷ ys) (y ∷ ys) (y ∷ insert_key R ys k))) [
        | Less ↦ λ e. ((e, all_map (λ z. R y z ≡ Less) (λ z. R k z ≡ Less) (λ z h. o.trans k y z e h) ys s.0), s)
        | Equal ↦ λ e. s
        | Greater ↦ λ e. (all-insert_key (λ z. R y z ≡ Less) ys k s.0 (turned_back k y e), sorted-insert_key ys k s.1)
      ] refl

  -- what is below all is not there
  has_below : (E : List K) (x : K) → AllByRecursion (λ z. R x z ≡ Less) E → has R E x ≡ false
  has_below [] x a = refl
  has_below (y ∷ ys) x a = ap (λ r. is_eq r || has R ys x) a.0 ∙ has_below ys x a.1

  below_head : (y : K) (ys : List K) (x : K) → IsStrictlySortedBy R (y ∷ ys) → R x y ≡ Less → AllByRecursion (λ z. R x z ≡ Less) (y ∷ ys)
  unfolding IsStrictlySortedBy
  below_head y ys x s e = (e, all_map (λ z. R y z ≡ Less) (λ z. R x z ≡ Less) (λ z h. o.trans x y z e h) ys s.0)

  -- an item that is there adds nothing
  pub insert_key_present : (E : List K) (k : K) → IsStrictlySortedBy R E → has R E k ≡ true → insert_key R E k ≡ E
  unfolding IsStrictlySortedBy
  insert_key_present [] k s h = absurd (true≢false (sym h))
  insert_key_present (y ∷ ys) k s h =
      elim (R k y) as (λ r. R k y ≡ r → (is_eq r || has R ys k) ≡ true → match_ordering r (k ∷ y ∷ ys) (y ∷ ys) (y ∷ insert_key R ys k) ≡ y ∷ ys) [
        | Less ↦ λ e t. absurd (true≢false (sym t ∙ has_below ys k (below_head y ys k s e).1))
        | Equal ↦ λ e t. refl
        | Greater ↦ λ e t. ap (λ l. y ∷ l) (insert_key_present ys k s.1 t)
      ] refl h

  pub add_all-append : (E xs ys : List K) → add_all R E (xs ++ ys) ≡ add_all R (add_all R E xs) ys
  add_all-append E [] ys = refl
  add_all-append E (x ∷ xs) ys = add_all-append (insert_key R E x) xs ys

  -- what a union has
  pub has-add_all : (E xs : List K) (x : K) → has R (add_all R E xs) x ≡ (has R E x || has R xs x)
  has-add_all E [] x = sym (or-false (has R E x))
  has-add_all E (y ∷ ys) x =
      has-add_all (insert_key R E y) ys x ∙ ap (λ b. b || has R ys x) (has-insert_key E y x) ∙ or_regroup (is_eq (R x y)) (has R E x) (has R ys x)

  pub has-in_order : (xs : List K) (x : K) → has R (in_order R xs) x ≡ has R xs x
  has-in_order xs x = has-add_all [] xs x

  pub sorted-add_all : (E xs : List K) → IsStrictlySortedBy R E → IsStrictlySortedBy R (add_all R E xs)
  sorted-add_all E [] s = s
  sorted-add_all E (x ∷ xs) s = sorted-add_all (insert_key R E x) xs (sorted-insert_key E x s)

  pub sorted-in_order : (xs : List K) → IsStrictlySortedBy R (in_order R xs)
  unfolding IsStrictlySortedBy
  sorted-in_order xs = sorted-add_all [] xs tt

  -- one more item at the end
  pub in_order-push : (A : List K) (x : K) → in_order R (A ++ x ∷ []) ≡ insert_key R (in_order R A) x
  in_order-push A x = add_all-append [] A (x ∷ [])

  -- one that is there
  pub in_order-present : (A : List K) (x : K) → has R A x ≡ true → insert_key R (in_order R A) x ≡ in_order R A
  in_order-present A x h = insert_key_present (in_order R A) x (sorted-in_order A) (has-in_order A x ∙ h)

  -- what arrives again adds nothing to the set
  pub in_order-append_new : (A xs : List K) → in_order R (append_new R A xs) ≡ add_all R (in_order R A) xs
  in_order-append_new A [] = refl
  in_order-append_new A (x ∷ xs) =
      elim (has R A x) as (λ b. has R A x ≡ b → in_order R (append_new R (if b then A else A ++ x ∷ []) xs) ≡ add_all R (insert_key R (in_order R A) x) xs) [
        | true ↦ λ e. in_order-append_new A xs ∙ ap (λ E. add_all R E xs) (sym (in_order-present A x e))
        | false ↦ λ e. in_order-append_new (A ++ x ∷ []) xs ∙ ap (λ E. add_all R E xs) (in_order-push A x)
      ] refl

  -- one of the items ties with itself
  pub has-from_Contains : (E : List K) (x : K) → Contains E x → has R E x ≡ true
  has-from_Contains E x c = list_any_at (λ y. is_eq (R x y)) E c.0 x c.1 (ap (λ y. is_eq (R x y)) c.2 ∙ ap is_eq (tied_itself o x))

  pub has_alike : (E : List K) (x y : K) → R x y ≡ Equal → has R E x ≡ has R E y
  has_alike [] x y e = refl
  has_alike (z ∷ zs) x y e = ap (λ r. is_eq r || has R zs x) (o.congr x y z e) ∙ ap (λ b. is_eq (R y z) || b) (has_alike zs x y e)

  module _ (P : K → Type 0) (exact : (x y : K) → P x → P y → R x y ≡ Equal → x ≡ y) where
    -- where ties are equal, what ties is one of the items
    pub Contains-from_has : (xs : List K) (k : K) → AllByRecursion P xs → P k → has R xs k ≡ true → Contains xs k
    Contains-from_has [] k a p h = absurd (true≢false (sym h))
    Contains-from_has (x ∷ xs) k a p h = first_or_later (R k x) refl h (Contains-from_has xs k a.1 p)
      where
        first_or_later : (r : Ordering) → R k x ≡ r → (is_eq r || has R xs k) ≡ true → (has R xs k ≡ true → Contains xs k) → Contains (x ∷ xs) k
        first_or_later Less e t f = let c = f t in (suc c.0, omega (arith, c.1), c.2)
        first_or_later Equal e t f = (0, omega arith, sym (exact k x p a.0 e))
        first_or_later Greater e t f = let c = f t in (suc c.0, omega (arith, c.1), c.2)

    tail_has : (x : K) (xs ys : List K) (k : K) → AllByRecursion (λ z. R x z ≡ Less) xs → AllByRecursion (λ z. R x z ≡ Less) ys → (is_eq (R k x) || has R xs k) ≡ (is_eq (R k x) || has R ys k) → has R xs k ≡ has R ys k
    tail_has x xs ys k a b h =
        elim (R k x) as (λ r. R k x ≡ r → (is_eq r || has R xs k) ≡ (is_eq r || has R ys k) → has R xs k ≡ has R ys k) [
          | Less ↦ λ e t. t
          | Equal ↦ λ e t. has_alike xs k x e ∙ has_below xs x a ∙ sym (has_alike ys k x e ∙ has_below ys x b)
          | Greater ↦ λ e t. t
        ] refl h

    -- a set is one list: what it has determines it
    pub same_from_has : (xs ys : List K) → IsStrictlySortedBy R xs → IsStrictlySortedBy R ys → AllByRecursion P xs → AllByRecursion P ys → ((k : K) → has R xs k ≡ has R ys k) → xs ≡ ys
    unfolding IsStrictlySortedBy
    same_from_has [] [] s t p q h = refl
    same_from_has [] (y ∷ ys) s t p q h = absurd (true≢false (sym (h y ∙ ap (λ r. is_eq r || has R ys y) (tied_itself o y))))
    same_from_has (x ∷ xs) [] s t p q h = absurd (true≢false (sym (ap (λ r. is_eq r || has R xs x) (tied_itself o x)) ∙ h x))
    same_from_has (x ∷ xs) (y ∷ ys) s t p q h =
        elim (R x y) as (λ r. R x y ≡ r → x ∷ xs ≡ y ∷ ys) [
          | Less ↦ λ e. absurd (true≢false (sym (ap (λ r. is_eq r || has R xs x) (tied_itself o x)) ∙ h x ∙ has_below (y ∷ ys) x (below_head y ys x t e)))
          | Equal ↦ λ e.
              let same : x ≡ y = exact x y p.0 q.0 e in
              let t' : AllByRecursion (λ z. R x z ≡ Less) ys = all_map (λ z. R y z ≡ Less) (λ z. R x z ≡ Less) (λ z l. o.congr x y z e ∙ l) ys t.0 in
              let tails : xs ≡ ys = same_from_has xs ys s.1 t.1 p.1 q.1 (λ k. tail_has x xs ys k s.0 t' (h k ∙ ap (λ r. is_eq r || has R ys k) (sym (alike_right x y k e)))) in
              cc
          | Greater ↦ λ e. absurd (true≢false (sym (ap (λ r. is_eq r || has R ys y) (tied_itself o y)) ∙ sym (h y) ∙ has_below (x ∷ xs) y (below_head x xs y s (turned_back x y e))))
        ] refl

module _ {K : Type 0} {R : K → K → Ordering} (o : IsTotalOrder R) where
  pub all-add_all : (P : K → Type 0) (E xs : List K) → AllByRecursion P E → AllByRecursion P xs → AllByRecursion P (add_all R E xs)
  all-add_all P E [] a b = a
  all-add_all P E (x ∷ xs) a b = all-add_all P (insert_key R E x) xs (all-insert_key o P E x a b.0) b.1

  pub all-in_order : (P : K → Type 0) (xs : List K) → AllByRecursion P xs → AllByRecursion P (in_order R xs)
  all-in_order P xs a = all-add_all P [] xs tt a

  pub append_new-append : (A xs ys : List K) → append_new R A (xs ++ ys) ≡ append_new R (append_new R A xs) ys
  append_new-append A [] ys = refl
  append_new-append A (x ∷ xs) ys = append_new-append (if has R A x then A else A ++ x ∷ []) xs ys

  module _ (P : K → Type 0) (exact : (x y : K) → P x → P y → R x y ≡ Equal → x ≡ y) where
    pub same_sets : (E F : List K) → IsStrictlySortedBy R E → IsStrictlySortedBy R F → AllByRecursion P E → AllByRecursion P F → ((k : K) → has R E k ≡ has R F k) → E ≡ F
    same_sets E F s t a b h = same_from_has o P exact E F s t a b h

    pub sets_are_members : (A B : List K) → AllByRecursion P A → AllByRecursion P B → ((k : K) → has R A k ≡ has R B k) → in_order R A ≡ in_order R B
    sets_are_members A B a b h =
        same_sets (in_order R A) (in_order R B) (sorted-in_order o A) (sorted-in_order o B) (all-in_order P A a) (all-in_order P B b)
        (λ k. has-in_order o A k ∙ h k ∙ sym (has-in_order o B k))

    -- what arrives is added to the set, as the set of what arrives
    pub added_sets : (A B : List K) → AllByRecursion P A → AllByRecursion P B → in_order R (append_new R A B) ≡ add_all R (in_order R A) (in_order R B)
    added_sets A B a b =
        in_order-append_new o A B
        ∙ same_sets _ _ (sorted-add_all o _ B (sorted-in_order o A)) (sorted-add_all o _ (in_order R B) (sorted-in_order o A))
        (all-add_all P _ B (all-in_order P A a) b) (all-add_all P _ _ (all-in_order P A a) (all-in_order P B b))
        (λ k. has-add_all o (in_order R A) B k ∙ ap (λ x. has R (in_order R A) k || x) (sym (has-in_order o B k)) ∙ sym (has-add_all o (in_order R A) (in_order R B) k))

    module _ (E F : List K) (s : IsStrictlySortedBy R E) (t : IsStrictlySortedBy R F) (a : AllByRecursion P E) (b : AllByRecursion P F) where
      pub union_comm : add_all R E F ≡ add_all R F E
      union_comm = same_sets _ _ (sorted-add_all o E F s) (sorted-add_all o F E t) (all-add_all P E F a b) (all-add_all P F E b a) (λ k. has-add_all o E F k ∙ or_comm (has R E k) (has R F k) ∙ sym (has-add_all o F E k))
        where
          or_comm : (a b : Bool) → (a || b) ≡ (b || a)
          or_comm true true = refl
          or_comm true false = refl
          or_comm false true = refl
          or_comm false false = refl

      pub union_idem : add_all R E E ≡ E
      union_idem = same_sets _ _ (sorted-add_all o E E s) s (all-add_all P E E a a) a (λ k. has-add_all o E E k ∙ or_same (has R E k))
        where
          or_same : (a : Bool) → (a || a) ≡ a
          or_same true = refl
          or_same false = refl

      pub union_assoc : (G : List K) → IsStrictlySortedBy R G → AllByRecursion P G → add_all R (add_all R E F) G ≡ add_all R E (add_all R F G)
      union_assoc G u c = same_sets _ _ (sorted-add_all o _ G (sorted-add_all o E F s)) (sorted-add_all o E (add_all R F G) s) (all-add_all P (add_all R E F) G (all-add_all P E F a b) c) (all-add_all P E (add_all R F G) a (all-add_all P F G b c))
          (λ k. has-add_all o (add_all R E F) G k ∙ ap (λ x. x || has R G k) (has-add_all o E F k) ∙ or_assoc (has R E k) (has R F k) (has R G k) ∙ ap (λ x. has R E k || x) (sym (has-add_all o F G k)) ∙ sym (has-add_all o E (add_all R F G) k))
        where
          or_assoc : (a b c : Bool) → ((a || b) || c) ≡ (a || (b || c))
          or_assoc true b c = refl
          or_assoc false b c = refl

module _ {K : Type 0} (R : K → K → Ordering) where
  -- how many items arrive
  pub length-append_new : (A xs : List K) → (length A ≤ length (append_new R A xs)) × (length (append_new R A xs) ≤ length A + length xs)
  length-append_new A [] = (omega arith, omega arith)
  length-append_new A (x ∷ xs) =
      elim (has R A x) as (λ b. (length A ≤ length (append_new R (if b then A else A ++ x ∷ []) xs)) × (length (append_new R (if b then A else A ++ x ∷ []) xs) ≤ length A + suc (length xs))) [
        | true ↦ let h = length-append_new A xs in (h.0, omega (arith, h.1))
        | false ↦ let h = length-append_new (A ++ x ∷ []) xs in (omega (arith, h.0, length-append A (x ∷ [])), omega (arith, h.1, length-append A (x ∷ [])))
      ]
