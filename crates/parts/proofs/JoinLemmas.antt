-- A list in order is that of its parts, in order.
use Rattle.std.proofs.Common.{◌≡◌, ◌⊎◌, inl, inr, ◌<◌, ℕ, List, [], ◌∷◌, ◌++◌, Bool, true, false, cond, not, ◌&&◌, ◌||◌, filter, filter_map, flat_map, map, nat_lt, Option, Some, None, refl, sym, subst, ap, ap₂, ◌∙◌, is_eq, is_lt, true≢false}
use Rattle.std.specs.declared.cmp.Ordering.{Ordering}
use Rattle.std.specs.declared.cmp.Ordering.TheVariants.{Less, Equal, Greater}
use Rattle.std.specs.Cmp.{IsTotalOrder}
use Rattle.std.specs.Ordering.{ordering_then}
use Rattle.std.specs.Map.{keys_of}
use Rattle.std.specs.Option.{option_map, option_map_or}
use Rattle.std.specs.List.{AllByRecursion, cons_option, list_any, range_with_len}
use Rattle.std.specs.List.Sorted.{IsStrictlySortedBy}
use Rattle.std.proofs.lemmas.Cmp.{nat_list_cmp_total, on_total, then_total}
use Rattle.attributes.specs.Bytes.{byte_cmp}
use Rattle.attributes.specs.Event.{EventValue, source_of, subject_of}
use Rattle.inbox.specs.Conflicts.{conflict_of, conflicts, conflicts_of, is_first_of_several}
use Rattle.inbox.specs.KeyOrder.{key_cmp, pair_cmp, same_key, text_cmp}
use Rattle.inbox.specs.Ordered.{in_order}
use Rattle.inbox.specs.Shown.{is_shown, shown}
use Rattle.inbox.specs.declared.conflict.Conflict.{Conflict}
use Rattle.inbox.proofs.SetLemmas.{all-in_order, all_append, has-in_order, same_sets, sorted-in_order, turned}
use Rattle.views.specs.Latest.{entities_of, entity_cmp, entity_of, is_of, latest, latest_of}
use Rattle.views.proofs.GreatestLemmas.{latest_is_greatest}
use Rattle.views.proofs.OrderLemmas.{entity_cmp_total}
use Rattle.parts.specs.Merge.{conflict_cmp, entity_at, latest_cmp, source_row_cmp, rows_of_part}
use Rattle.parts.specs.Part.{FallsBelow, falls_to, of_parts, part}
use Rattle.parts.specs.Law.{PartsJoin}
use Rattle.parts.proofs.PartLemmas.{conflicts_part}
use Rattle.parts.proofs.LatestLemmas.{latest_part}
use Rattle.parts.proofs.MergeLemmas.{all_left, all_parts, flat_same}
use Rattle.parts.proofs.SumLemmas.{all_of, any_counts}

abbrev Mem : {X : Type 0} → List X → X → Type 0
Mem [] x = ⊥
Mem (y ∷ ys) x = (x ≡ y) ⊎ Mem ys x

all_map : {X : Type 0} (P Q : X → Type 0) → ((x : X) → P x → Q x) → (xs : List X) → AllByRecursion P xs → AllByRecursion Q xs
all_map P Q f [] a = a
all_map P Q f (x ∷ xs) a = (f x a.0, all_map P Q f xs a.1)

own_members : {X : Type 0} (xs : List X) → AllByRecursion (Mem xs) xs
own_members [] = tt
own_members (x ∷ xs) = (inl refl, all_map (Mem xs) (Mem (x ∷ xs)) (λ y m. inr m) xs (own_members xs))

all_mem : {X : Type 0} (P : X → Type 0) (xs : List X) (x : X) → AllByRecursion P xs → Mem xs x → P x
all_mem P [] x a m = absurd m
all_mem P (y ∷ ys) x a (inl e) = subst P (sym e) a.0
all_mem P (y ∷ ys) x a (inr m) = all_mem P ys x a.1 m

module _ {X : Type 0} {R : X → X → Ordering} (o : IsTotalOrder R) where
  -- in a list that rises only equal items tie
  exact : (L : List X) → IsStrictlySortedBy R L → (x y : X) → Mem L x → Mem L y → R x y ≡ Equal → x ≡ y
  unfolding IsStrictlySortedBy
  exact [] s x y a b t = absurd a
  exact (z ∷ zs) s x y (inl a) (inl b) t = a ∙ sym b
  exact (z ∷ zs) s x y (inl a) (inr b) t = let l : R z y ≡ Less = all_mem (λ w. R z w ≡ Less) zs y s.0 b in let e : R z y ≡ Equal = ap (λ w. R w y) (sym a) ∙ t in absurd (cc)
  exact (z ∷ zs) s x y (inr a) (inl b) t = let l : R x z ≡ Greater = turned o z x (all_mem (λ w. R z w ≡ Less) zs x s.0 a) in let e : R x z ≡ Equal = ap (R x) (sym b) ∙ t in absurd (cc)
  exact (z ∷ zs) s x y (inr a) (inr b) t = exact zs s.1 x y a b t

  pub joined : (src : X → List ℕ) (p : List ℕ → ℕ) (n : ℕ) → FallsBelow p n → (L : List X) → IsStrictlySortedBy R L → in_order R (of_parts n (λ i. filter (λ x. falls_to p i (src x)) L)) ≡ L
  joined src p n falls L sorted =
      let J = of_parts n (λ i. filter (λ x. falls_to p i (src x)) L) in
      let all : AllByRecursion (Mem L) J = all_parts (Mem L) (λ i. filter (λ x. falls_to p i (src x)) L) (λ i. all_left (Mem L) (λ x. falls_to p i (src x)) L (own_members L)) (range_with_len 0 n) in
      let test : X → X → Bool = λ k y. is_eq (R k y) in
      same_sets o (Mem L) (exact L sorted) (in_order R J) L (sorted-in_order o J) sorted (all-in_order o (Mem L) J all) (own_members L)
      (λ k. has-in_order o J k ∙ any_counts (test k) J ∙ ap (nat_lt 0) (all_of src p n falls (λ x. cond (test k x) 1 0) L) ∙ sym (any_counts (test k) L))

-- ---- rows by source

row_total : {X : Type 0} → IsTotalOrder (source_row_cmp {X = X})
row_total {X} = on_total (λ (r : List ℕ × X). r.0) nat_list_cmp_total

below_keys : {X : Type 0} (k : List ℕ) (rows : List (List ℕ × X)) → AllByRecursion (λ z. byte_cmp k z ≡ Less) (keys_of rows) → AllByRecursion (λ (r : List ℕ × X). byte_cmp k r.0 ≡ Less) rows
below_keys k [] a = tt
below_keys k (r ∷ rows) a = (a.0, below_keys k rows a.1)

rows_sorted : {X : Type 0} (rows : List (List ℕ × X)) → IsStrictlySortedBy byte_cmp (keys_of rows) → IsStrictlySortedBy (source_row_cmp {X = X}) rows
unfolding IsStrictlySortedBy
rows_sorted [] s = tt
rows_sorted (r ∷ rows) s = (below_keys r.0 rows s.0, rows_sorted rows s.1)

pub rows_join : {X : Type 0} (p : List ℕ → ℕ) (n : ℕ) → FallsBelow p n → (rows : List (List ℕ × X)) → IsStrictlySortedBy byte_cmp (keys_of rows) → in_order source_row_cmp (of_parts n (λ i. rows_of_part p i rows)) ≡ rows
rows_join {X} p n falls rows s = joined row_total (λ (r : List ℕ × X). r.0) p n falls rows (rows_sorted rows s)

-- ---- conflicts

conflict_total : IsTotalOrder conflict_cmp
conflict_total = then_total (on_total (λ (c : Conflict). c.source) nat_list_cmp_total) (on_total (λ (c : Conflict). c.id) nat_list_cmp_total)

any_at : {X : Type 0} (q : X → Bool) (xs : List X) (x : X) → list_any q xs ≡ false → Mem xs x → q x ≡ false
any_at q [] x h m = absurd m
any_at q (y ∷ ys) x h (inl e) = ap q e ∙ left (q y) (list_any q ys) h
  where
    left : (a b : Bool) → (a || b) ≡ false → a ≡ false
    left true b h = h
    left false b h = refl
any_at q (y ∷ ys) x h (inr m) = any_at q ys x (right (q y) (list_any q ys) h) m
  where
    right : (a b : Bool) → (a || b) ≡ false → b ≡ false
    right true b h = absurd (true≢false h)
    right false b h = h

not_true : (b : Bool) → not b ≡ true → b ≡ false
not_true true h = absurd (true≢false (sym h))
not_true false h = refl

pair_less : (p t : Ordering) → ordering_then p t ≡ Less → is_eq p && is_lt t ≡ false → p ≡ Less
pair_less Less t h k = refl
pair_less Equal t h k = let q : is_lt t ≡ true = ap is_lt h in absurd (cc)
pair_less Greater t h k = h

-- whoever stands before a shown event has a lesser key
before_shown : (E : List EventValue) (x f : EventValue) → Mem E x → key_cmp x f ≡ Less → is_shown E f ≡ true → pair_cmp x f ≡ Less
before_shown E x f m l s = pair_less (pair_cmp x f) (text_cmp x f) l (any_at (λ g. same_key g f && is_lt (text_cmp g f)) E x (not_true (list_any (λ g. same_key g f && is_lt (text_cmp g f)) E) s) m)

and_left : (a b : Bool) → (a && b) ≡ true → a ≡ true
and_left true b h = refl
and_left false b h = h

module _ (E : List EventValue) where
  abbrev several : EventValue → Bool
  several = is_first_of_several E

  behind : (x : EventValue) → Mem E x → (xs : List EventValue) → AllByRecursion (λ z. key_cmp x z ≡ Less) xs → AllByRecursion (λ c. conflict_cmp (conflict_of E x) c ≡ Less) (map (conflict_of E) (filter several xs))
  behind x m [] a = tt
  behind x m (f ∷ xs) a = by (several f) refl (behind x m xs a.1)
    where
      by : (b : Bool) → several f ≡ b → AllByRecursion (λ c. conflict_cmp (conflict_of E x) c ≡ Less) (map (conflict_of E) (filter several xs)) → AllByRecursion (λ c. conflict_cmp (conflict_of E x) c ≡ Less) (map (conflict_of E) (cond b (f ∷ filter several xs) (filter several xs)))
      by true t r = (before_shown E x f m a.0 (and_left (is_shown E f) (nat_lt 1 (Rattle.std.proofs.Common.length (Rattle.inbox.specs.Conflicts.of_key E f))) t), r)
      by false t r = r

  conflicts_rise : (xs : List EventValue) → AllByRecursion (Mem E) xs → IsStrictlySortedBy key_cmp xs → IsStrictlySortedBy conflict_cmp (map (conflict_of E) (filter several xs))
  unfolding IsStrictlySortedBy
  conflicts_rise [] m s = tt
  conflicts_rise (x ∷ xs) m s =
      elim (several x) as (λ b. IsStrictlySortedBy conflict_cmp (map (conflict_of E) (cond b (x ∷ filter several xs) (filter several xs)))) [
        | true ↦ (behind x m.0 xs s.0, conflicts_rise xs m.1 s.1)
        | false ↦ conflicts_rise xs m.1 s.1
      ]

conflicts_join : (p : List ℕ → ℕ) (n : ℕ) (E : List EventValue) → FallsBelow p n → IsStrictlySortedBy key_cmp E → in_order conflict_cmp (of_parts n (λ i. conflicts (part p i E))) ≡ conflicts E
conflicts_join p n E falls s =
    ap (in_order conflict_cmp) (flat_same (λ i. conflicts (part p i E)) (λ i. filter (λ (c : Conflict). falls_to p i c.source) (conflicts E)) (λ i. conflicts_part p i E) (range_with_len 0 n))
    ∙ joined conflict_total (λ (c : Conflict). c.source) p n falls (conflicts E) (conflicts_rise E E (own_members E) s)

-- ---- latest events

latest_total : IsTotalOrder latest_cmp
latest_total = on_total entity_at entity_cmp_total

at_entity : (x : List ℕ × List ℕ) (e : EventValue) → is_of x e ≡ true → entity_cmp x (entity_at e) ≡ Equal
at_entity x e h = by (subject_of e) h
  where
    equal_from : (r : Ordering) → is_eq r ≡ true → r ≡ Equal
    equal_from Less h = absurd (true≢false (sym h))
    equal_from Equal h = refl
    equal_from Greater h = absurd (true≢false (sym h))

    by : (m : Option (List ℕ)) → option_map_or (λ own. is_eq (entity_cmp x own)) (option_map (λ subject. (source_of e, subject)) m) false ≡ true → entity_cmp x (source_of e, option_map_or (λ s. s) m []) ≡ Equal
    by None h = absurd (true≢false (sym h))
    by (Some s) h = equal_from (entity_cmp x (source_of e, s)) h

module _ (S : List EventValue) where
  -- where an entity is below others, so is what is found of it
  between : (x y : List ℕ × List ℕ) (e f : EventValue) → latest_of S x ≡ Some e → latest_of S y ≡ Some f → entity_cmp x y ≡ Less → latest_cmp e f ≡ Less
  between x y e f a b l =
      let p = at_entity x e (latest_is_greatest S x e a).of_entity in
      let q = at_entity y f (latest_is_greatest S y f b).of_entity in
      sym (entity_cmp_total.congr x (entity_at e) (entity_at f) p) ∙ sym (Rattle.inbox.proofs.SetLemmas.alike_right entity_cmp_total y (entity_at f) x q) ∙ l

  above : (x : List ℕ × List ℕ) (e : EventValue) → latest_of S x ≡ Some e → (ys : List (List ℕ × List ℕ)) → AllByRecursion (λ y. entity_cmp x y ≡ Less) ys → AllByRecursion (λ f. latest_cmp e f ≡ Less) (filter_map (latest_of S) ys)
  above x e h [] a = tt
  above x e h (y ∷ ys) a = by (latest_of S y) refl (above x e h ys a.1)
    where
      by : (m : Option EventValue) → latest_of S y ≡ m → AllByRecursion (λ f. latest_cmp e f ≡ Less) (filter_map (latest_of S) ys) → AllByRecursion (λ f. latest_cmp e f ≡ Less) (cons_option m (filter_map (latest_of S) ys))
      by None t r = r
      by (Some f) t r = (between x y e f h t a.0, r)

  latest_rise : (xs : List (List ℕ × List ℕ)) → IsStrictlySortedBy entity_cmp xs → IsStrictlySortedBy latest_cmp (filter_map (latest_of S) xs)
  unfolding IsStrictlySortedBy
  latest_rise [] s = tt
  latest_rise (x ∷ xs) s =
      elim (latest_of S x) as (λ m. latest_of S x ≡ m → IsStrictlySortedBy latest_cmp (cons_option m (filter_map (latest_of S) xs))) [
        | None ↦ λ t. latest_rise xs s.1
        | Some e ↦ λ t. (above x e t xs s.0, latest_rise xs s.1)
      ] refl

latest_join : (p : List ℕ → ℕ) (n : ℕ) (E : List EventValue) → FallsBelow p n → in_order latest_cmp (of_parts n (λ i. latest (part p i E))) ≡ latest E
latest_join p n E falls =
    ap (in_order latest_cmp) (flat_same (λ i. latest (part p i E)) (λ i. part p i (latest E)) (λ i. latest_part p i E) (range_with_len 0 n))
    ∙ joined latest_total source_of p n falls (latest E) (latest_rise (shown E) (entities_of (shown E)) (sorted-in_order entity_cmp_total (filter_map entity_of (shown E))))

pub parts_join : PartsJoin
parts_join = record { conflicts = conflicts_join; latest = latest_join; entries = λ p n rows falls s. rows_join p n falls rows s; digests = λ p n rows falls s. rows_join p n falls rows s }
