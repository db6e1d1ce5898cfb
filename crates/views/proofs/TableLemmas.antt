-- Tables with a value at each key: what one more item changes.
use Rattle.std.proofs.Common.{◌≡◌, ℕ, ◌+◌, ◌≤◌, List, [], ◌∷◌, ◌++◌, true, false, ◌||◌, length, map, if◌then◌else◌, refl, sym, ap, ◌∙◌, arith, subst, Option, Some, None, IsSome}
use Rattle.std.specs.Prelude.{count_by, cond}
use Rattle.std.proofs.lemmas.List.Sums.{sum_by-append, sum_by-cons, count_by-le-length}
use mathlib.Core.Bool.{true≢false}
use Rattle.std.specs.declared.cmp.Ordering.{Ordering}
use Rattle.std.specs.declared.cmp.Ordering.TheVariants.{Less, Equal, Greater}
use Rattle.std.specs.Ordering.{is_eq, match_ordering, ordering_reverse}
use Rattle.std.specs.Cmp.{IsTotalOrder}
use Rattle.std.specs.Map.{keys_of, lookup, set_value}
use Rattle.std.specs.List.{AllByRecursion}
use Rattle.std.specs.List.Sorted.{IsStrictlySortedBy}
use Rattle.std.specs.Option.{option_map, option_map_or}
use Rattle.std.specs.BTreeSet.{insert_key}
use Rattle.std.specs.BTreeMap.{insert_entry, is_at}
use Rattle.std.proofs.lemmas.Cmp.{tied_itself}
use Rattle.inbox.specs.Ordered.{has, in_order}
use Rattle.views.proofs.InOrderLemmas.{sorted-in_order, in_order-push, has-in_order}
use Rattle.views.specs.Tally.{tally}

-- the keys, each with its value
abbrev pub with_values : {K V : Type 0} → (K → V) → List K → List (K × V)
with_values f ks = map (λ j. (j, f j)) ks

-- ---- a map whose keys and values are seen through f and h
module _ {X K Y V : Type 0} (f : X → K) (h : Y → V) (R : K → K → Ordering) where
  pub seen_insert : (es : List (X × Y)) (k : X) (v : Y)
      → map (λ (e : X × Y). (f e.0, h e.1)) (insert_entry (λ x y. R (f x) (f y)) es k v) ≡ insert_entry R (map (λ (e : X × Y). (f e.0, h e.1)) es) (f k) (h v)
  seen_insert [] k v = refl
  seen_insert (e ∷ es) k v =
      elim (R (f k) (f e.0)) as (λ r. map (λ (e : X × Y). (f e.0, h e.1)) (match_ordering r ((k, v) ∷ e ∷ es) ((e.0, v) ∷ es) (e ∷ insert_entry (λ x y. R (f x) (f y)) es k v))
      ≡ match_ordering r ((f k, h v) ∷ (f e.0, h e.1) ∷ map (λ (e : X × Y). (f e.0, h e.1)) es) ((f e.0, h v) ∷ map (λ (e : X × Y). (f e.0, h e.1)) es) ((f e.0, h e.1) ∷ insert_entry R (map (λ (e : X × Y). (f e.0, h e.1)) es) (f k) (h v))) [
        | Less ↦ refl
        | Equal ↦ refl
        | Greater ↦ ap (λ l. (f e.0, h e.1) ∷ l) (seen_insert es k v)
      ]

  pub seen_lookup : (es : List (X × Y)) (k : X)
      → option_map h (lookup (is_at (λ y. R (f k) (f y))) es) ≡ lookup (is_at (R (f k))) (map (λ (e : X × Y). (f e.0, h e.1)) es)
  seen_lookup [] k = refl
  seen_lookup (e ∷ es) k =
      elim (is_eq (R (f k) (f e.0))) as (λ b. option_map h (if b then Some e.1 else lookup (is_at (λ y. R (f k) (f y))) es)
      ≡ (if b then Some (h e.1) else lookup (is_at (R (f k))) (map (λ (e : X × Y). (f e.0, h e.1)) es))) [
        | true ↦ refl
        | false ↦ seen_lookup es k
      ]

all_above : {K : Type 0} {R : K → K → Ordering} (o : IsTotalOrder R) (k y : K) → R k y ≡ Equal → (ys : List K) → AllByRecursion (λ z. R y z ≡ Less) ys → AllByRecursion (λ z. R k z ≡ Less) ys
all_above o k y e [] a = tt
all_above o k y e (z ∷ zs) a = (o.congr k y z e ∙ a.0, all_above o k y e zs a.1)

all_beyond : {K : Type 0} {R : K → K → Ordering} (o : IsTotalOrder R) (k y : K) → R k y ≡ Less → (ys : List K) → AllByRecursion (λ z. R y z ≡ Less) ys → AllByRecursion (λ z. R k z ≡ Less) ys
all_beyond o k y e [] a = tt
all_beyond o k y e (z ∷ zs) a = (o.trans k y z e a.0, all_beyond o k y e zs a.1)

-- ---- a key takes the value v, and the others keep theirs
module _ {K V : Type 0} {R : K → K → Ordering} (o : IsTotalOrder R) (k : K) (v : V) (f g : K → V) (same : (j : K) → R k j ≡ Equal → g j ≡ v) (others : (j : K) → is_eq (R k j) ≡ false → g j ≡ f j) where
  untouched : (ys : List K) → AllByRecursion (λ z. R k z ≡ Less) ys → with_values f ys ≡ with_values g ys
  untouched [] a = refl
  untouched (y ∷ ys) a = cc (others y (ap is_eq a.0), untouched ys a.1)

  pub insert_value : (ks : List K) → IsStrictlySortedBy R ks → insert_entry R (with_values f ks) k v ≡ with_values g (insert_key R ks k)
  unfolding IsStrictlySortedBy
  insert_value [] s = ap (λ x. (k, x) ∷ []) (sym (same k (tied_itself o k)))
  insert_value (y ∷ ys) s =
      elim (R k y) as (λ r. R k y ≡ r → match_ordering r ((k, v) ∷ (y, f y) ∷ with_values f ys) ((y, v) ∷ with_values f ys) ((y, f y) ∷ insert_entry R (with_values f ys) k v)
      ≡ with_values g (match_ordering r (k ∷ y ∷ ys) (y ∷ ys) (y ∷ insert_key R ys k))) [
        | Less ↦ λ e. cc (same k (tied_itself o k), others y (ap is_eq e), untouched ys (all_beyond o k y e ys s.0))
        | Equal ↦ λ e. cc (same y e, untouched ys (all_above o k y e ys s.0))
        | Greater ↦ λ e. cc (others y (ap is_eq e), insert_value ys s.1)
      ] refl

-- the value that is looked up
pub look_up : {K V : Type 0} (R : K → K → Ordering) (k : K) (w : V) (f : K → V) → ((j : K) → R k j ≡ Equal → f j ≡ w) → (ks : List K)
    → lookup (is_at (R k)) (with_values f ks) ≡ (if has R ks k then Some w else None)
look_up R k w f at [] = refl
look_up R k w f at (y ∷ ys) =
    elim (R k y) as (λ r. R k y ≡ r → (if is_eq r then Some (f y) else lookup (is_at (R k)) (with_values f ys)) ≡ (if is_eq r || has R ys k then Some w else None)) [
      | Less ↦ λ e. look_up R k w f at ys
      | Equal ↦ λ e. ap (λ x. Some x) (at y e)
      | Greater ↦ λ e. look_up R k w f at ys
    ] refl

-- ---- to set the value at a key that is there is to insert it
module _ {K V : Type 0} {R : K → K → Ordering} (o : IsTotalOrder R) (k : K) where
  none_beyond : (es : List (K × V)) → AllByRecursion (λ z. R k z ≡ Less) (keys_of es) → lookup (is_at (R k)) es ≡ None
  none_beyond [] a = refl
  none_beyond (e ∷ es) a = ap (λ r. cond (is_eq r) (Some e.1) (lookup (is_at (R k)) es)) a.0 ∙ none_beyond es a.1

  pub set_is_insert : (w : V) (es : List (K × V)) → IsStrictlySortedBy R (keys_of es) → IsSome (lookup (is_at (R k)) es)
      → set_value (is_at (R k)) es w ≡ insert_entry R es k w
  unfolding IsStrictlySortedBy
  set_is_insert w [] s h = absurd (true≢false (sym h))
  set_is_insert w (e ∷ es) s h =
      elim (R k e.0) as (λ r. R k e.0 ≡ r → IsSome (cond (is_eq r) (Some e.1) (lookup (is_at (R k)) es)) → cond (is_eq r) ((e.0, w) ∷ es) (e ∷ set_value (is_at (R k)) es w)
      ≡ match_ordering r ((k, w) ∷ e ∷ es) ((e.0, w) ∷ es) (e ∷ insert_entry R es k w)) [
        | Less ↦ λ is some. absurd (true≢false (sym (subst IsSome (none_beyond es (all_beyond o k e.0 is (keys_of es) s.0)) some)))
        | Equal ↦ λ is some. refl
        | Greater ↦ λ is some. ap (λ l. e ∷ l) (set_is_insert w es s.1 some)
      ] refl h

-- ---- counts
module _ {K : Type 0} {R : K → K → Ordering} (o : IsTotalOrder R) where
  -- how many of the keys tie with k
  abbrev pub times : List K → K → ℕ
  times ks k = count_by (λ j. is_eq (R k j)) ks

  eq_turned : (j k : K) → is_eq (R j k) ≡ is_eq (R k j)
  eq_turned j k = ap is_eq (o.antisymm j k) ∙ elim (R k j) as (λ r. is_eq (ordering_reverse r) ≡ is_eq r) [ Less ↦ refl | Equal ↦ refl | Greater ↦ refl ]

  times-push : (ks : List K) (j k : K) → times (ks ++ k ∷ []) j ≡ times ks j + cond (is_eq (R k j)) 1 0
  times-push ks j k = sum_by-append (λ i. cond (is_eq (R j i)) 1 0) ks (k ∷ []) ∙ ap (λ b. times ks j + (0 + cond b 1 0)) (eq_turned j k) ∙ omega arith

  times_alike : (ks : List K) (j k : K) → R k j ≡ Equal → times ks j ≡ times ks k
  times_alike [] j k e = refl
  times_alike (x ∷ xs) j k e =
      sum_by-cons (λ i. cond (is_eq (R j i)) 1 0) x xs
      ∙ ap (λ r. cond (is_eq r) 1 0 + times xs j) (sym (o.congr k j x e))
      ∙ ap (λ n. cond (is_eq (R k x)) 1 0 + n) (times_alike xs j k e)
      ∙ sym (sum_by-cons (λ i. cond (is_eq (R k i)) 1 0) x xs)

  times_none : (ks : List K) (k : K) → has R ks k ≡ false → times ks k ≡ 0
  times_none [] k h = refl
  times_none (x ∷ xs) k h =
      sum_by-cons (λ i. cond (is_eq (R k i)) 1 0) x xs ∙ elim (is_eq (R k x)) as (λ b. (b || has R xs k) ≡ false → cond b 1 0 + times xs k ≡ 0) [
        | true ↦ λ h. absurd (true≢false h)
        | false ↦ λ h. omega (arith, times_none xs k h)
      ] h

  pub counted : (ks : List K) (k : K) → option_map_or (λ n. n) (lookup (is_at (R k)) (tally R ks)) 0 ≡ times ks k
  counted ks k =
      ap (λ x. option_map_or (λ n. n) x 0) (look_up R k (times ks k) (times ks) (λ j e. times_alike ks j k e) (in_order R ks) ∙ ap (λ b. if b then Some (times ks k) else None) (has-in_order o ks k))
      ∙ elim (has R ks k) as (λ b. has R ks k ≡ b → option_map_or (λ n. n) (if b then Some (times ks k) else None) 0 ≡ times ks k) [
        | true ↦ λ e. refl
        | false ↦ λ e. sym (times_none ks k e)
      ] refl

  -- one more key
  pub tally-push : (ks : List K) (k : K) → insert_entry R (tally R ks) k (times ks k + 1) ≡ tally R (ks ++ k ∷ [])
  tally-push ks k =
      insert_value o k (times ks k + 1) (times ks) (times (ks ++ k ∷ []))
      (λ j e. times-push ks j k ∙ ap (λ r. times ks j + cond (is_eq r) 1 0) e ∙ ap (λ n. n + 1) (times_alike ks j k e))
      (λ j e. times-push ks j k ∙ ap (λ b. times ks j + cond b 1 0) e ∙ omega arith)
      (in_order R ks) (sorted-in_order o ks)
      ∙ ap (with_values (times (ks ++ k ∷ []))) (sym (in_order-push o ks k))

  -- the same of a map whose keys are seen through f
  module _ {X : Type 0} (f : X → K) where
    -- how often the key was counted
    abbrev pub before : List (X × ℕ) → X → ℕ
    before es x = option_map_or (λ n. n) (lookup (is_at (λ y. R (f x) (f y))) es) 0

    pub before-is : (es : List (X × ℕ)) (x : X) (ks : List K) → map (λ (e : X × ℕ). (f e.0, e.1)) es ≡ tally R ks → before es x ≡ times ks (f x)
    before-is es x ks h =
        through (lookup (is_at (λ y. R (f x) (f y))) es)
        ∙ ap (λ m. option_map_or (λ n. n) m 0) (seen_lookup f (λ n. n) R es x ∙ ap (lookup (is_at (R (f x)))) h)
        ∙ counted ks (f x)
      where
        through : (m : Option ℕ) → option_map_or (λ n. n) m 0 ≡ option_map_or (λ n. n) (option_map (λ n. n) m) 0
        through None = refl
        through (Some n) = refl

    pub before-le : (es : List (X × ℕ)) (x : X) (ks : List K) → map (λ (e : X × ℕ). (f e.0, e.1)) es ≡ tally R ks → before es x ≤ length ks
    before-le es x ks h = omega (arith, before-is es x ks h, count_by-le-length (λ j. is_eq (R (f x) j)) ks)

    pub count_step : (es : List (X × ℕ)) (x : X) (ks : List K) → map (λ (e : X × ℕ). (f e.0, e.1)) es ≡ tally R ks
        → map (λ (e : X × ℕ). (f e.0, e.1)) (insert_entry (λ x y. R (f x) (f y)) es x (before es x + 1)) ≡ tally R (ks ++ f x ∷ [])
    count_step es x ks h =
        seen_insert f (λ n. n) R es x (before es x + 1)
        ∙ ap (λ n. insert_entry R (map (λ (e : X × ℕ). (f e.0, e.1)) es) (f x) (n + 1)) (before-is es x ks h)
        ∙ ap (λ l. insert_entry R l (f x) (times ks (f x) + 1)) h
        ∙ tally-push ks (f x)
