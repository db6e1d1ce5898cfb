-- The latest events, by the rows of their entities.
use Rattle.std.proofs.Common.{◌≡◌, ℕ, suc, ◌-◌, List, [], ◌∷◌, Bool, true, false, ◌||◌, ◌&&◌, inl, inr, cond, if◌then◌else◌, length, map, fold, refl, sym, ap, ap₂, subst, ◌∙◌, arith, Option, Some, None, slice_get}
use Rattle.std.specs.Prelude.{Contains, filter_map, option_and_then}
use Rattle.std.specs.declared.cmp.Ordering.{Ordering}
use Rattle.std.specs.declared.cmp.Ordering.TheVariants.{Less, Equal}
use Rattle.std.specs.Ordering.{is_eq, is_lt}
use Rattle.std.specs.Cmp.{IsTotalOrder, both_ways}
use Rattle.std.specs.List.{AllByRecursion, IsDistinct, cons_option}
use Rattle.std.specs.List.Sorted.{IsStrictlySortedBy}
use Rattle.std.specs.Map.{keys_of, lookup}
use Rattle.std.specs.Option.{option_map, option_map_or}
use Rattle.std.specs.BTreeMap.{insert_entry}
use Rattle.std.specs.declared.string.String.{String}
use Rattle.std.proofs.lemmas.Cmp.{nat_list_cmp_total, on_total, then_total, tied_itself}
use Rattle.std.proofs.lemmas.Map.Lookups.{exact_bytes, exact_pairs}
use Rattle.std.proofs.lemmas.Option.{slice_get-map, slice_get_within}
use mathlib.Core.Bool.{true≢false}
use Rattle.attributes.specs.Event.{EventValue, id_of, source_of, subject_of}
use Rattle.inbox.specs.Ordered.{has}
use Rattle.inbox.specs.Sets.{AreEvents, set_of}
use Rattle.inbox.specs.Shown.{shown}
use Rattle.views.specs.Latest.{greater, greatest, is_of, latest_of, number_cmp, entity_cmp, entity_of, entities_of}
use Rattle.views.specs.Law.{LatestAreGreatest, NoneTie, EntitiesHaveLatest}
use Rattle.views.specs.Number.{number_or_0}
use Rattle.views.proofs.GreatestLemmas.{greatest_bound, greatest_one, each_there}
use Rattle.views.proofs.TableLemmas.{with_values}
use Rattle.kept_views.specs.Tables.{EachHasRow, Rank, Rows, RowsAreOf, Entity, is_rank, is_entity, row_place_at, rank_cmp, rows_of, slot_of}
use Rattle.kept_views.specs.steps.Latest.{latest_row, entity_row, top_event, top_rank}
use Rattle.kept_views.specs.steps.Rows.{put_all}
use Rattle.kept_views.specs.steps.Seen.{rank_in}
use Rattle.kept_views.proofs.AnswerLemmas.{in_order_of_keys, one_order, row_found}
use Rattle.kept_views.proofs.ListLemmas.{any_false}
use Rattle.kept_views.proofs.MemberLemmas.{all_in, at_head, behind, head_or_behind, place_in}
use Rattle.kept_views.proofs.ShownLemmas.{equal_from, neither_less}
use Rattle.kept_views.proofs.StandsLemmas.{in_slot}
use Rattle.kept_views.proofs.TableLemmas.{rank_cmp_total, rank_exact, rank_itself, entity_exact, entity_itself}

-- ---- the last of ranks that rise is the greatest
module _ {K : Type 0} (R : K → K → Ordering) where
  rises : (b : K) (xs : List K) → IsStrictlySortedBy R (b ∷ xs) → fold (λ best x. Some (greater R best x)) (Some b) xs ≡ slice_get (b ∷ xs) (length xs)
  unfolding IsStrictlySortedBy
  rises b [] s = refl
  rises b (x ∷ xs) s = ap (λ r. fold (λ best x. Some (greater R best x)) (Some (if is_lt r then x else b)) xs) s.0.0 ∙ rises x xs s.1

  greatest_last : (xs : List K) (i : ℕ) → IsStrictlySortedBy R xs → suc i ≡ length xs → greatest R xs ≡ slice_get xs i
  greatest_last [] i s h = absurd (omega (arith, h))
  greatest_last (x ∷ xs) i s h = let last : length xs ≡ i = omega (arith, h) in rises x xs s ∙ ap (slice_get (x ∷ xs)) last

  some_stays : (xs : List K) (b : K) → (l : K) × (fold (λ best x. Some (greater R best x)) (Some b) xs ≡ Some l)
  some_stays [] b = (b, refl)
  some_stays (x ∷ xs) b = some_stays xs (if is_lt (R b x) then x else b)

  greatest_some : (xs : List K) (x : K) → Contains xs x → (l : K) × (greatest R xs ≡ Some l)
  greatest_some [] x c = absurd (omega (arith, c.1))
  greatest_some (y ∷ ys) x c = some_stays ys y

module _ {Y : Type 0} where
  sorted_seen : (es : List ((ℕ × String Y) × ℕ)) → IsStrictlySortedBy (λ x y. rank_cmp (rank_in x) (rank_in y)) (keys_of es) → IsStrictlySortedBy rank_cmp (map (λ (row : Rank × ℕ). row.0) (map (λ (r : (ℕ × String Y) × ℕ). (rank_in r.0, r.1)) es))
  unfolding IsStrictlySortedBy
  sorted_seen [] s = tt
  sorted_seen (e ∷ es) s = (above es s.0, sorted_seen es s.1)
    where
      above : (es : List ((ℕ × String Y) × ℕ)) → AllByRecursion (λ y. rank_cmp (rank_in e.0) (rank_in y) ≡ Less) (keys_of es) → AllByRecursion (λ y. rank_cmp (rank_in e.0) y ≡ Less) (map (λ (row : Rank × ℕ). row.0) (map (λ (r : (ℕ × String Y) × ℕ). (rank_in r.0, r.1)) es))
      above [] a = tt
      above (x ∷ xs) a = (a.0, above xs a.1)

  length_seen : (es : List ((ℕ × String Y) × ℕ)) → length es ≡ length (map (λ (row : Rank × ℕ). row.0) (map (λ (r : (ℕ × String Y) × ℕ). (rank_in r.0, r.1)) es))
  length_seen [] = refl
  length_seen (e ∷ es) = ap suc (length_seen es)

  pub last_rank : (es : List ((ℕ × String Y) × ℕ)) (k : ℕ × String Y) (p : ℕ) → IsStrictlySortedBy (λ x y. rank_cmp (rank_in x) (rank_in y)) (keys_of es) → slice_get es (length es - 1) ≡ Some (k, p)
      → top_rank (map (λ (r : (ℕ × String Y) × ℕ). (rank_in r.0, r.1)) es) ≡ Some (rank_in k)
  last_rank es k p s h =
      let ranks : List Rank = map (λ (row : Rank × ℕ). row.0) (map (λ (r : (ℕ × String Y) × ℕ). (rank_in r.0, r.1)) es) in
      greatest_last rank_cmp ranks (length es - 1) (sorted_seen es s) (omega (arith, length_seen es, slice_get_within es (length es - 1) (k, p) h))
      ∙ slice_get-map (λ (row : Rank × ℕ). row.0) (map (λ (r : (ℕ × String Y) × ℕ). (rank_in r.0, r.1)) es) (length es - 1)
      ∙ ap (option_map (λ (row : Rank × ℕ). row.0)) (slice_get-map (λ (r : (ℕ × String Y) × ℕ). (rank_in r.0, r.1)) es (length es - 1) ∙ ap (option_map (λ (r : (ℕ × String Y) × ℕ). (rank_in r.0, r.1))) h)

-- the event of a rank that is found
pub top_found : (A : List EventValue) (rows : Rows) (k : Rank) (p : ℕ) → top_rank rows ≡ Some k → lookup (is_rank k) rows ≡ Some p → top_event A rows ≡ slice_get A p
top_found A rows k p top found = ap (option_and_then (λ rank. option_and_then (slice_get A) (lookup (is_rank rank) rows))) top ∙ ap (option_and_then (slice_get A)) found

-- an event goes in at its entity
pub goes_in : (table : List (Entity × Option EventValue)) (e : EventValue) (source subject : List ℕ) → source ≡ source_of e → Some subject ≡ subject_of e
    → insert_entry entity_cmp table (source, subject) (Some e) ≡ put_all entity_cmp table (cons_option (entity_row e) [])
goes_in table e source subject h k =
    ap (λ s. insert_entry entity_cmp table (s, subject) (Some e)) h
    ∙ ap (λ o. put_all entity_cmp table (cons_option (option_map (λ entity. (entity, Some e)) (option_map (λ subject. (source_of e, subject)) o)) [])) k

-- ---- entities
entity_cmp_total : IsTotalOrder entity_cmp
entity_cmp_total = then_total (on_total (λ (t : Entity). t.0) nat_list_cmp_total) (on_total (λ (t : Entity). t.1) nat_list_cmp_total)

entity_cmp_exact : (t u : Entity) → entity_cmp t u ≡ Equal → t ≡ u
entity_cmp_exact t u h = exact_pairs _ _ exact_bytes exact_bytes t u h

entity_at : (e : EventValue) (t : Entity) (r : Rank) → slot_of e ≡ Some (t, r) → entity_of e ≡ Some t
entity_at e t r h =
    let s = in_slot e t r h in
    ap (option_map (λ subject. (source_of e, subject))) s.subject ∙ ap (λ x. Some (x, t.1)) s.source

is_of_entity : (e : EventValue) (t : Entity) → entity_of e ≡ Some t → is_of t e ≡ true
is_of_entity e t h = ap (λ o. option_map_or (λ own. is_eq (entity_cmp t own)) o false) h ∙ ap is_eq (tied_itself entity_cmp_total t)

entity_if_of : (e : EventValue) (t : Entity) → is_of t e ≡ true → entity_of e ≡ Some t
entity_if_of e t h = from (entity_of e) refl h
  where
    from : (o : Option Entity) → entity_of e ≡ o → option_map_or (λ own. is_eq (entity_cmp t own)) o false ≡ true → entity_of e ≡ Some t
    from None is h = absurd (true≢false (sym h))
    from (Some own) is h = is ∙ ap Some (sym (entity_cmp_exact t own (equal_from _ h)))

slot_at : (e : EventValue) (t : Entity) → entity_of e ≡ Some t → slot_of e ≡ Some (t, (number_or_0 e, id_of e))
slot_at e t h = through (subject_of e) ∙ ap (option_map (λ entity. (entity, (number_or_0 e, id_of e)))) h
  where
    through : (o : Option (List ℕ)) → option_map {U = Entity × Rank} (λ subject. ((source_of e, subject), (number_or_0 e, id_of e))) o ≡ option_map (λ entity. (entity, (number_or_0 e, id_of e))) (option_map (λ subject. (source_of e, subject)) o)
    through None = refl
    through (Some s) = refl

number_cmp_total : IsTotalOrder number_cmp
number_cmp_total = on_total (λ (e : EventValue). (number_or_0 e, id_of e)) rank_cmp_total

-- ---- members
module _ {K : Type 0} {R : K → K → Ordering} (o : IsTotalOrder R) (exact : (x y : K) → R x y ≡ Equal → x ≡ y) where
  has_in : (xs : List K) (x : K) → has R xs x ≡ true → Contains xs x
  has_in [] x h = absurd (true≢false (sym h))
  has_in (y ∷ ys) x h = elim (is_eq (R x y)) as (λ b. is_eq (R x y) ≡ b → (b || has R ys x) ≡ true → Contains (y ∷ ys) x) [
    | true ↦ λ e h. let same : x ≡ y = exact x y (equal_from _ e) in subst (λ z. Contains (y ∷ ys) z) (sym same) (at_head y ys)
    | false ↦ λ e h. behind y x ys (has_in ys x h)
  ] refl h

  in_has : (xs : List K) (x : K) → Contains xs x → has R xs x ≡ true
  in_has [] x c = absurd (omega (arith, c.1))
  in_has (y ∷ ys) x c = elim (head_or_behind y x ys c) as (λ _. (is_eq (R x y) || has R ys x) ≡ true) [
    | inl e ↦ ap (λ z. is_eq (R x z) || has R ys x) e ∙ ap (λ r. is_eq r || has R ys x) (tied_itself o x)
    | inr d ↦ or_true (is_eq (R x y)) (in_has ys x d)
  ]
    where
      or_true : (a : Bool) {b : Bool} → b ≡ true → (a || b) ≡ true
      or_true true e = refl
      or_true false e = e

in_map : {X Y : Type 0} (f : X → Y) (xs : List X) (x : X) → Contains xs x → Contains (map f xs) (f x)
in_map f [] x c = absurd (omega (arith, c.1))
in_map f (y ∷ ys) x c = elim (head_or_behind y x ys c) as (λ _. Contains (f y ∷ map f ys) (f x)) [
  | inl e ↦ (0, omega arith, ap f e)
  | inr d ↦ behind (f y) (f x) (map f ys) (in_map f ys x d)
]

of_map : {X Y : Type 0} (f : X → Y) (xs : List X) (y : Y) → Contains (map f xs) y → (x : X) × Contains xs x × (f x ≡ y)
of_map f [] y c = absurd (omega (arith, c.1))
of_map {X} f (x ∷ xs) y c = elim (head_or_behind (f x) y (map f xs) c) as (λ _. (z : X) × Contains (x ∷ xs) z × (f z ≡ y)) [
  | inl e ↦ (x, at_head x xs, e)
  | inr d ↦ let r = of_map f xs y d in (r.0, behind x r.0 xs r.1, r.2)
]

in_filter_map : {X Y : Type 0} (g : X → Option Y) (xs : List X) (x : X) (y : Y) → Contains xs x → g x ≡ Some y → Contains (filter_map g xs) y
in_filter_map g [] x y c h = absurd (omega (arith, c.1))
in_filter_map {X} {Y} g (z ∷ zs) x y c h = elim (head_or_behind z x zs c) as (λ _. Contains (cons_option (g z) (filter_map g zs)) y) [
  | inl e ↦ subst (λ o. Contains (cons_option o (filter_map g zs)) y) (sym (ap g e ∙ h)) (at_head y (filter_map g zs))
  | inr d ↦ kept (g z) (in_filter_map g zs x y d h)
]
  where
    kept : (o : Option Y) → Contains (filter_map g zs) y → Contains (cons_option o (filter_map g zs)) y
    kept None d = d
    kept (Some v) d = behind v y (filter_map g zs) d

of_filter_map : {X Y : Type 0} (g : X → Option Y) (xs : List X) (y : Y) → Contains (filter_map g xs) y → (x : X) × Contains xs x × (g x ≡ Some y)
of_filter_map g [] y c = absurd (omega (arith, c.1))
of_filter_map {X} {Y} g (x ∷ xs) y c = from (of_filter_map g xs y) (g x) refl c
  where
    from : (Contains (filter_map g xs) y → (z : X) × Contains xs z × (g z ≡ Some y)) → (o : Option Y) → g x ≡ o → Contains (cons_option o (filter_map g xs)) y → (z : X) × Contains (x ∷ xs) z × (g z ≡ Some y)
    from later None is c = let r = later c in (r.0, behind x r.0 xs r.1, r.2)
    from later (Some v) is c = elim (head_or_behind v y (filter_map g xs) c) as (λ _. (z : X) × Contains (x ∷ xs) z × (g z ≡ Some y)) [
      | inl e ↦ (x, at_head x xs, is ∙ ap Some e)
      | inr d ↦ let r = later d in (r.0, behind x r.0 xs r.1, r.2)
    ]

all_members : {X : Type 0} (P : X → Type 0) (xs : List X) → ((x : X) → Contains xs x → P x) → AllByRecursion P xs
all_members P xs f = each_there P xs f

-- a key that is found has a row, and a row's key is found
found_in : {P X : Type 0} (same : P → P → Bool) (exact : (p q : P) → same p q ≡ true → p ≡ q) (p : P) (rows : List (P × X)) (x : X) → lookup (same p) rows ≡ Some x → Contains rows (p, x)
found_in same exact p [] x h = absurd (cc)
found_in {P} {X} same exact p (row ∷ rows) x h = elim (same p row.0) as (λ b. same p row.0 ≡ b → cond b (Some row.1) (lookup (same p) rows) ≡ Some x → Contains (row ∷ rows) (p, x)) [
  | true ↦ λ e h. let value : row.1 ≡ x = cc in (0, omega arith, ap₂ (λ (a : P) (b : X). (a, b)) (sym (exact p row.0 e)) value)
  | false ↦ λ e h. behind row (p, x) rows (found_in same exact p rows x h)
] refl h

key_found : {P X : Type 0} (same : P → P → Bool) (itself : (p : P) → same p p ≡ true) (p : P) (rows : List (P × X)) → Contains (map (λ (row : P × X). row.0) rows) p → (x : X) × (lookup (same p) rows ≡ Some x)
key_found same itself p [] c = absurd (omega (arith, c.1))
key_found {P} {X} same itself p (row ∷ rows) c = from (key_found same itself p rows) (same p row.0) refl
  where
    from : (Contains (map (λ (row : P × X). row.0) rows) p → (x : X) × (lookup (same p) rows ≡ Some x)) → (b : Bool) → same p row.0 ≡ b → (x : X) × (cond (same p row.0) (Some row.1) (lookup (same p) rows) ≡ Some x)
    from later true e = (row.1, ap (λ b. cond b (Some row.1) (lookup (same p) rows)) e)
    from later false e = elim (head_or_behind row.0 p (map (λ (row : P × X). row.0) rows) c) as (λ _. (x : X) × (cond (same p row.0) (Some row.1) (lookup (same p) rows) ≡ Some x)) [
      | inl h ↦ absurd (true≢false (sym (ap (same p) h ∙ itself p) ∙ e))
      | inr d ↦ let r = later d in (r.0, ap (λ b. cond b (Some row.1) (lookup (same p) rows)) e ∙ r.1)
    ]

-- ---- the rows of the shown events
module _ (A : List EventValue) (entities : List (Entity × Rows)) (rows : RowsAreOf A (shown (set_of A)) entities) (each : EachHasRow (shown (set_of A)) entities) (distinct : IsDistinct is_entity (map (λ (t : Entity × Rows). t.0) entities))
    (events : AreEvents A) (greatest_law : LatestAreGreatest) (each_law : EntitiesHaveLatest) (tie_law : NoneTie) where
  abbrev S : List EventValue
  S = shown (set_of A)

  rows_are : (t : Entity) (rs : Rows) → lookup (is_entity t) entities ≡ Some rs → rows_of entities t ≡ rs
  rows_are t rs h = ap (λ o. option_map_or (λ (rows : Rows). rows) o []) h

  -- the event of the greatest rank is shown, in its slot
  row_top : (t : Entity) (rs : Rows) (k : Rank) → lookup (is_entity t) entities ≡ Some rs → top_rank rs ≡ Some k → (e : EventValue) × (top_event A rs ≡ Some e) × Contains S e × (slot_of e ≡ Some (t, k))
  row_top t rs k there top =
      let ranks : List Rank = map (λ (row : Rank × ℕ). row.0) rs in
      let member : Contains ranks k = greatest_one rank_cmp_total (λ x. Contains ranks x) ranks k (all_members (λ x. Contains ranks x) ranks (λ x c. c)) top in
      let place = key_found is_rank rank_itself k rs member in
      let row = rows t k place.0 (ap (lookup (is_rank k)) (rows_are t rs there) ∙ place.1) in
      (row.0, top_found A rs k place.0 top place.1 ∙ row.1, row.2, row.3)

  -- and it is the latest of its entity
  latest_at : (t : Entity) (rs : Rows) (k : Rank) (e : EventValue) → lookup (is_entity t) entities ≡ Some rs → top_rank rs ≡ Some k → Contains S e → slot_of e ≡ Some (t, k) → latest_of S t ≡ Some e
  latest_at t rs k e there top c slot =
      let of-e : is_of t e ≡ true = is_of_entity e t (entity_at e t k slot) in
      let found = each_law S t e c of-e in
      let l = found.0 in
      let is = greatest_law S t l found.1 in
      let slot-l = slot_at l t (entity_if_of l t is.of_entity) in
      let rank-l : Rank = (number_or_0 l, id_of l) in
      let place = each l t rank-l is.is_there slot-l in
      let ranks : List Rank = map (λ (row : Rank × ℕ). row.0) rs in
      let member : Contains ranks rank-l = in_map (λ (row : Rank × ℕ). row.0) rs (rank-l, place.0) (found_in is_rank rank_exact rank-l rs place.0 (ap (lookup (is_rank rank-l)) (sym (rows_are t rs there)) ∙ place.1)) in
      let bound : is_lt (rank_cmp k rank-l) ≡ false = all_in (λ x. is_lt (rank_cmp k x) ≡ false) ranks rank-l (any_false (λ x. is_lt (rank_cmp k x)) ranks (greatest_bound rank_cmp_total ranks k top)) member in
      let s = in_slot e t k slot in
      let own : ◌≡◌ {A = Rank} (number_or_0 e, id_of e) k = ap₂ (λ (n : ℕ) (i : List ℕ). (n, i)) s.number s.id in
      let first : is_lt (number_cmp e l) ≡ false = ap (λ (x : Rank). is_lt (rank_cmp x rank-l)) own ∙ bound in
      let second : is_lt (number_cmp l e) ≡ false = right _ _ (all_in (λ f. (is_of t f && is_lt (number_cmp l f)) ≡ false) S e (any_false (λ f. is_of t f && is_lt (number_cmp l f)) S is.greatest) c) of-e in
      let tie : number_cmp e l ≡ Equal = neither_less (number_cmp e l) (number_cmp l e) (number_cmp_total.antisymm l e) first second in
      found.1 ∙ ap Some (sym (tie_law A t e l events c is.is_there of-e is.of_entity (ap is_eq tie)))
    where
      right : (a b : Bool) → (a && b) ≡ false → a ≡ true → b ≡ false
      right true b h t = h
      right false b h t = absurd (true≢false (sym t))

  abbrev keys : List Entity
  keys = map (λ (row : Entity × Option EventValue). row.0) (filter_map (latest_row A) entities)

  -- what an entity gives
  row_is : (x : Entity × Rows) (y : Entity × Option EventValue) → Contains entities x → latest_row A x ≡ Some y → (e : EventValue) × (y ≡ (x.0, Some e)) × Contains S e × (entity_of e ≡ Some x.0) × (latest_of S x.0 ≡ Some e)
  row_is x y c h = from (top_rank x.1) refl
    where
      place : (i : ℕ) × (slice_get entities i ≡ Some x)
      place = place_in entities x c

      there : lookup (is_entity x.0) entities ≡ Some x.1
      there = row_found is_entity entity_exact entity_itself entities distinct place.0 x place.1

      from : (o : Option Rank) → top_rank x.1 ≡ o → (e : EventValue) × (y ≡ (x.0, Some e)) × Contains S e × (entity_of e ≡ Some x.0) × (latest_of S x.0 ≡ Some e)
      from None is = let none : None ≡ Some y = sym (ap (λ o. option_and_then entity_row (option_and_then (λ rank. option_and_then (slice_get A) (lookup (is_rank rank) x.1)) o)) is) ∙ h in absurd (cc)
      from (Some k) is =
          let top = row_top x.0 x.1 k there is in
          let own : entity_of top.0 ≡ Some x.0 = entity_at top.0 x.0 k top.3 in
          let gives : Some (x.0, Some top.0) ≡ Some y = sym (ap (option_and_then entity_row) top.1 ∙ ap (option_map (λ entity. (entity, Some top.0))) own) ∙ h in
          let same : (x.0, Some top.0) ≡ y = cc in
          (top.0, sym same, top.2, own, latest_at x.0 x.1 k top.0 there is top.2 top.3)

  pub latest_listed : put_all entity_cmp [] (filter_map (latest_row A) entities) ≡ with_values (latest_of S) (entities_of S)
  latest_listed =
      in_order_of_keys entity_cmp_total entity_cmp_exact (latest_of S) (filter_map (latest_row A) entities)
      (all_members _ (filter_map (latest_row A) entities) (λ y c. let g = of_filter_map (latest_row A) entities y c in let r = row_is g.0 y g.1 g.2 in
      ap (λ (z : Entity × Option EventValue). z.1) r.1 ∙ sym r.4 ∙ ap (λ (z : Entity × Option EventValue). latest_of S z.0) (sym r.1)))
      ∙ ap (with_values (latest_of S)) (one_order entity_cmp_total entity_cmp_exact keys (filter_map entity_of S) (λ t. both_ways _ _ (λ h. in_has entity_cmp_total entity_cmp_exact _ t (onward t (has_in entity_cmp_total entity_cmp_exact _ t h))) (λ h. in_has entity_cmp_total entity_cmp_exact _ t (backward t (has_in entity_cmp_total entity_cmp_exact _ t h)))))
    where
      onward : (t : Entity) → Contains keys t → Contains (filter_map entity_of S) t
      onward t c =
          let m = of_map (λ (row : Entity × Option EventValue). row.0) (filter_map (latest_row A) entities) t c in
          let g = of_filter_map (latest_row A) entities m.0 m.1 in
          let r = row_is g.0 m.0 g.1 g.2 in
          in_filter_map entity_of S r.0 t r.2 (r.3 ∙ ap Some (ap (λ (z : Entity × Option EventValue). z.0) (sym r.1) ∙ m.2))

      backward : (t : Entity) → Contains (filter_map entity_of S) t → Contains keys t
      backward t c =
          let m = of_filter_map entity_of S t c in
          let e = m.0 in
          let slot = slot_at e t m.2 in
          let place = each e t (number_or_0 e, id_of e) m.1 slot in
          with_rows e place.0 place.1 (lookup (is_entity t) entities) refl
        where
          with_rows : (e : EventValue) (p : ℕ) → row_place_at entities t (number_or_0 e, id_of e) ≡ Some p → (o : Option Rows) → lookup (is_entity t) entities ≡ o → Contains keys t
          with_rows e p h None is = let none : None ≡ Some p = sym (ap (λ o. lookup (is_rank (number_or_0 e, id_of e)) (option_map_or (λ (rows : Rows). rows) o [])) is) ∙ h in absurd (cc)
          with_rows e p h (Some rs) is =
              let rank : Rank = (number_or_0 e, id_of e) in
              let ranks : List Rank = map (λ (row : Rank × ℕ). row.0) rs in
              let member : Contains ranks rank = in_map (λ (row : Rank × ℕ). row.0) rs (rank, p) (found_in is_rank rank_exact rank rs p (ap (lookup (is_rank rank)) (sym (rows_are t rs is)) ∙ h)) in
              let k = greatest_some rank_cmp ranks rank member in
              let top = row_top t rs k.0 is k.1 in
              let own : entity_of top.0 ≡ Some t = entity_at top.0 t k.0 top.3 in
              in_map (λ (row : Entity × Option EventValue). row.0) (filter_map (latest_row A) entities) (t, Some top.0)
              (in_filter_map (latest_row A) entities (t, rs) (t, Some top.0) (found_in is_entity entity_exact t entities rs is) (ap (option_and_then entity_row) top.1 ∙ ap (option_map (λ entity. (entity, Some top.0))) own))
