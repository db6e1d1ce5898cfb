-- The latest item of each entity: what one more item changes.
use Rattle.std.proofs.Common.{◌≡◌, List, [], ◌∷◌, ◌++◌, Bool, true, false, ◌||◌, map, if◌then◌else◌, refl, sym, ap, ◌∙◌, Option, Some, None}
use Rattle.std.specs.Prelude.{cond, filter, filter_map, option_map, option_and_then}
use Rattle.std.specs.List.{cons_option}
use Rattle.std.specs.declared.cmp.Ordering.{Ordering}
use Rattle.std.specs.declared.cmp.Ordering.TheVariants.{Less, Equal, Greater}
use Rattle.std.specs.Ordering.{is_eq, ordering_reverse}
use Rattle.std.specs.Cmp.{IsTotalOrder}
use Rattle.std.specs.Map.{lookup}
use Rattle.std.specs.Option.{option_map_or}
use Rattle.std.specs.BTreeMap.{insert_entry, is_at}
use Rattle.std.proofs.lemmas.List.Elements.{filter-append, filter_map-append}
use Rattle.std.proofs.lemmas.List.Sums.{fold-append}
use Rattle.std.proofs.lemmas.List.{append-nil}
use mathlib.Core.Bool.{true≢false}
use Rattle.inbox.specs.Ordered.{has, in_order}
use Rattle.views.proofs.InOrderLemmas.{sorted-in_order, in_order-push, has-in_order}
use Rattle.views.specs.Latest.{greater, greatest}
use Rattle.views.proofs.TableLemmas.{with_values, insert_value, look_up, seen_insert, seen_lookup}

values_alike : {K V : Type 0} (f g : K → V) → ((k : K) → f k ≡ g k) → (ks : List K) → with_values f ks ≡ with_values g ks
values_alike f g h [] = refl
values_alike f g h (k ∷ ks) = cc (h k, values_alike f g h ks)

module _ {X K : Type 0} {R : K → K → Ordering} (o : IsTotalOrder R) (C : X → X → Ordering) (entity : X → Option K) where
  abbrev pub belongs : K → X → Bool
  belongs k x = option_map_or (λ own. is_eq (R k own)) (entity x) false

  -- the greatest of the items of an entity
  abbrev pub best : List X → K → Option X
  best xs k = greatest C (filter (belongs k) xs)

  -- each entity with its greatest item
  abbrev pub rows : List X → List (K × Option X)
  rows xs = with_values (best xs) (in_order R (filter_map entity xs))

  best-push : (xs : List X) (x : X) (k : K) → best (xs ++ x ∷ []) k ≡ cond (belongs k x) (Some (greater C (best xs k) x)) (best xs k)
  best-push xs x k =
      ap (greatest C) (filter-append (belongs k) xs (x ∷ []))
      ∙ elim (belongs k x) as (λ b. greatest C (filter (belongs k) xs ++ cond b (x ∷ []) []) ≡ cond b (Some (greater C (best xs k) x)) (best xs k)) [
        | true ↦ fold-append (λ best x. Some (greater C best x)) None (filter (belongs k) xs) (x ∷ [])
        | false ↦ ap (greatest C) (append-nil (filter (belongs k) xs))
      ]

  belongs_alike : (j k : K) → R k j ≡ Equal → (x : X) → belongs j x ≡ belongs k x
  belongs_alike j k e x = elim (entity x) as (λ m. option_map_or (λ own. is_eq (R j own)) m false ≡ option_map_or (λ own. is_eq (R k own)) m false) [
    | None ↦ refl
    | Some own ↦ ap is_eq (sym (o.congr k j own e))
  ]

  filter_alike : (p q : X → Bool) → ((x : X) → p x ≡ q x) → (xs : List X) → filter p xs ≡ filter q xs
  filter_alike p q h [] = refl
  filter_alike p q h (x ∷ xs) = ap (λ b. cond b (x ∷ filter p xs) (filter p xs)) (h x) ∙ ap (λ l. cond (q x) (x ∷ l) l) (filter_alike p q h xs)

  best_alike : (xs : List X) (j k : K) → R k j ≡ Equal → best xs j ≡ best xs k
  best_alike xs j k e = ap (greatest C) (filter_alike (belongs j) (belongs k) (belongs_alike j k e) xs)

  by_tie : (b : Bool) (x : X) (l : List X) (h : Bool) → (b || h) ≡ false → (h ≡ false → l ≡ []) → cond b (x ∷ l) l ≡ []
  by_tie true x l h e f = absurd (true≢false e)
  by_tie false x l h e f = f e

  none_belongs : (xs : List X) (k : K) → has R (filter_map entity xs) k ≡ false → filter (belongs k) xs ≡ []
  none_belongs [] k h = refl
  none_belongs (x ∷ xs) k h =
      elim (entity x) as (λ m. has R (cons_option m (filter_map entity xs)) k ≡ false → cond (option_map_or (λ own. is_eq (R k own)) m false) (x ∷ filter (belongs k) xs) (filter (belongs k) xs) ≡ []) [
        | None ↦ λ h. none_belongs xs k h
        | Some own ↦ λ h. by_tie (is_eq (R k own)) x (filter (belongs k) xs) (has R (filter_map entity xs) k) h (none_belongs xs k)
      ] h

  pub found : (xs : List X) (k : K) → option_and_then (λ m. m) (lookup (is_at (R k)) (rows xs)) ≡ best xs k
  found xs k =
      ap (option_and_then (λ m. m)) (look_up R k (best xs k) (best xs) (λ j e. best_alike xs j k e) (in_order R (filter_map entity xs)) ∙ ap (λ b. if b then Some (best xs k) else None) (has-in_order o (filter_map entity xs) k))
      ∙ elim (has R (filter_map entity xs) k) as (λ b. has R (filter_map entity xs) k ≡ b → option_and_then (λ m. m) (if b then Some (best xs k) else None) ≡ best xs k) [
        | true ↦ λ e. refl
        | false ↦ λ e. sym (ap (greatest C) (none_belongs xs k e))
      ] refl

  entities-push : (xs : List X) (x : X) (k : K) → entity x ≡ Some k → filter_map entity (xs ++ x ∷ []) ≡ filter_map entity xs ++ k ∷ []
  entities-push xs x k e = filter_map-append entity xs (x ∷ []) ∙ ap (λ m. filter_map entity xs ++ cons_option m []) e

  entities-skip : (xs : List X) (x : X) → entity x ≡ None → filter_map entity (xs ++ x ∷ []) ≡ filter_map entity xs
  entities-skip xs x e = filter_map-append entity xs (x ∷ []) ∙ ap (λ m. filter_map entity xs ++ cons_option m []) e ∙ append-nil (filter_map entity xs)

  eq_turned : (j k : K) → is_eq (R j k) ≡ is_eq (R k j)
  eq_turned j k = ap is_eq (o.antisymm j k) ∙ elim (R k j) as (λ r. is_eq (ordering_reverse r) ≡ is_eq r) [ Less ↦ refl | Equal ↦ refl | Greater ↦ refl ]

  -- one more item of an entity
  pub rows-push : (xs : List X) (x : X) (k : K) → entity x ≡ Some k → insert_entry R (rows xs) k (Some (greater C (best xs k) x)) ≡ rows (xs ++ x ∷ [])
  rows-push xs x k e =
      let own : (j : K) → belongs j x ≡ is_eq (R k j) = λ j. ap (λ m. option_map_or (λ own. is_eq (R j own)) m false) e ∙ eq_turned j k in
      insert_value o k (Some (greater C (best xs k) x)) (best xs) (best (xs ++ x ∷ []))
      (λ j t. best-push xs x j ∙ ap (λ b. cond b (Some (greater C (best xs j) x)) (best xs j)) (own j ∙ ap is_eq t) ∙ ap (λ m. Some (greater C m x)) (best_alike xs j k t))
      (λ j t. best-push xs x j ∙ ap (λ b. cond b (Some (greater C (best xs j) x)) (best xs j)) (own j ∙ t))
      (in_order R (filter_map entity xs)) (sorted-in_order o (filter_map entity xs))
      ∙ ap (with_values (best (xs ++ x ∷ []))) (sym (in_order-push o (filter_map entity xs) k) ∙ ap (in_order R) (sym (entities-push xs x k e)))

  -- one more item of no entity
  pub rows-skip : (xs : List X) (x : X) → entity x ≡ None → rows xs ≡ rows (xs ++ x ∷ [])
  rows-skip xs x e =
      values_alike (best xs) (best (xs ++ x ∷ []))
      (λ j. sym (best-push xs x j ∙ ap (λ b. cond b (Some (greater C (best xs j) x)) (best xs j)) (ap (λ m. option_map_or (λ own. is_eq (R j own)) m false) e)))
      (in_order R (filter_map entity xs))
      ∙ ap (λ ks. with_values (best (xs ++ x ∷ [])) (in_order R ks)) (sym (entities-skip xs x e))

  -- the same of a map whose keys are seen through f and whose items through h
  module _ {Y Z : Type 0} (f : Y → K) (h : Z → X) where
    pub best-is : (es : List (Y × Z)) (y : Y) (xs : List X) → map (λ (e : Y × Z). (f e.0, Some (h e.1))) es ≡ rows xs
        → option_map h (lookup (is_at (λ z. R (f y) (f z))) es) ≡ best xs (f y)
    best-is es y xs same =
        through (lookup (is_at (λ z. R (f y) (f z))) es)
        ∙ ap (option_and_then (λ m. m)) (seen_lookup f (λ z. Some (h z)) R es y ∙ ap (lookup (is_at (R (f y)))) same)
        ∙ found xs (f y)
      where
        through : (m : Option Z) → option_map h m ≡ option_and_then (λ m. m) (option_map (λ z. Some (h z)) m)
        through None = refl
        through (Some z) = refl

    pub best_step : (es : List (Y × Z)) (y : Y) (z : Z) (xs : List X) (x : X) → map (λ (e : Y × Z). (f e.0, Some (h e.1))) es ≡ rows xs → entity x ≡ Some (f y)
        → h z ≡ greater C (option_map h (lookup (is_at (λ z. R (f y) (f z))) es)) x
        → map (λ (e : Y × Z). (f e.0, Some (h e.1))) (insert_entry (λ x y. R (f x) (f y)) es y z) ≡ rows (xs ++ x ∷ [])
    best_step es y z xs x same own winner =
        seen_insert f (λ z. Some (h z)) R es y z
        ∙ ap (λ v. insert_entry R (map (λ (e : Y × Z). (f e.0, Some (h e.1))) es) (f y) (Some v)) (winner ∙ ap (λ m. greater C m x) (best-is es y xs same))
        ∙ ap (λ l. insert_entry R l (f y) (Some (greater C (best xs (f y)) x))) same
        ∙ rows-push xs x (f y) own

cut_first : {A : Type 0} (a b : A) (l m : List A) → a ∷ l ≡ b ∷ m → (a ≡ b) × (l ≡ m)
cut_first a b l m e = let first : a ≡ b = cc in let rest : l ≡ m = cc in (first, rest)

-- the values of a table in which every key has one
pub values_of_rows : {K V E : Type 0} (f : E → K) (h : E → V) (g : K → Option V) (es : List E) (ks : List K) → map (λ e. (f e, Some (h e))) es ≡ with_values g ks → map h es ≡ filter_map g ks
values_of_rows f h g [] [] e = refl
values_of_rows f h g [] (k ∷ ks) e = absurd (cc)
values_of_rows f h g (x ∷ xs) [] e = absurd (cc)
values_of_rows f h g (x ∷ xs) (k ∷ ks) e =
    let cut = cut_first (f x, Some (h x)) (k, g k) (map (λ e. (f e, Some (h e))) xs) (with_values g ks) e in
    ap (λ l. h x ∷ l) (values_of_rows f h g xs ks cut.1) ∙ ap (λ p. cons_option p.1 (filter_map g ks)) cut.0
