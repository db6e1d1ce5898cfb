-- The latest events of a part.
use Rattle.std.proofs.Common.{◌≡◌, ℕ, List, [], ◌∷◌, Bool, true, false, cond, ◌&&◌, ◌||◌, filter, filter_map, Option, Some, None, refl, sym, ap, ◌∙◌, is_eq, true≢false}
use Rattle.std.specs.declared.cmp.Ordering.{Ordering}
use Rattle.std.specs.declared.cmp.Ordering.TheVariants.{Less, Equal, Greater}
use Rattle.std.specs.Cmp.{IsTotalOrder}
use Rattle.std.specs.Ordering.{ordering_then}
use Rattle.std.specs.List.{cons_option}
use Rattle.std.specs.Option.{option_map, option_map_or}
use Rattle.std.proofs.lemmas.Map.Lookups.{exact_bytes}
use Rattle.attributes.specs.Bytes.{byte_cmp}
use Rattle.attributes.specs.Event.{EventValue, source_of, subject_of}
use Rattle.inbox.specs.Ordered.{has, in_order}
use Rattle.inbox.specs.Shown.{shown}
use Rattle.inbox.proofs.SetLemmas.{has-in_order, same_sets, sorted-in_order}
use Rattle.views.specs.Latest.{entities_of, entity_cmp, entity_of, greatest, is_of, latest, latest_of, number_cmp}
use Rattle.views.proofs.GreatestLemmas.{latest_is_greatest}
use Rattle.views.proofs.OrderLemmas.{entity_cmp_total}
use Rattle.parts.specs.Part.{falls_to, part}
use Rattle.parts.proofs.MergeLemmas.{sorted_left}
use Rattle.parts.proofs.PartLemmas.{filter_narrow, shown_part}
use Rattle.parts.proofs.TallyLemmas.{units}

first_equal : (r s : Ordering) → ordering_then r s ≡ Equal → r ≡ Equal
first_equal Less s h = cc
first_equal Equal s h = refl
first_equal Greater s h = cc

second_equal : (r s : Ordering) → ordering_then r s ≡ Equal → s ≡ Equal
second_equal Less s h = cc
second_equal Equal s h = h
second_equal Greater s h = cc

equal_from : (r : Ordering) → is_eq r ≡ true → r ≡ Equal
equal_from Less h = absurd (true≢false (sym h))
equal_from Equal h = refl
equal_from Greater h = absurd (true≢false (sym h))

abbrev Entity : Type 0
Entity = List ℕ × List ℕ

exact_entities : (x y : Entity) → entity_cmp x y ≡ Equal → x ≡ y
exact_entities x y h =
    let a = exact_bytes x.0 y.0 (first_equal (byte_cmp x.0 y.0) (byte_cmp x.1 y.1) h) in
    let b = exact_bytes x.1 y.1 (second_equal (byte_cmp x.0 y.0) (byte_cmp x.1 y.1) h) in
    (λ k. (a k, b k))

-- ---- the order of what passes is what passes of the order

module _ {K : Type 0} {R : K → K → Ordering} (o : IsTotalOrder R) (exact : (x y : K) → R x y ≡ Equal → x ≡ y) (q : K → Bool) where
  has_left : (L : List K) (k : K) → has R (filter q L) k ≡ (q k && has R L k)
  has_left [] k = none (q k)
    where
      none : (b : Bool) → false ≡ (b && false)
      none true = refl
      none false = refl
  has_left (y ∷ ys) k = by (q y) (R k y) refl refl (has_left ys k)
    where
      yes : (b : Bool) → b ≡ true → (c : Bool) → true ≡ (b && (true || c))
      yes true e c = refl
      yes false e c = absurd (true≢false (sym e))

      no : (b : Bool) → b ≡ false → (c d : Bool) → (b && c) ≡ (b && d)
      no true e c d = absurd (true≢false e)
      no false e c d = refl

      by : (c : Bool) (r : Ordering) → q y ≡ c → R k y ≡ r → has R (filter q ys) k ≡ (q k && has R ys k) → has R (cond c (y ∷ filter q ys) (filter q ys)) k ≡ (q k && (is_eq r || has R ys k))
      by true Less e t h = ap (λ r. is_eq r || has R (filter q ys) k) t ∙ h
      by true Equal e t h = ap (λ r. is_eq r || has R (filter q ys) k) t ∙ yes (q k) (ap q (exact k y t) ∙ e) (has R ys k)
      by true Greater e t h = ap (λ r. is_eq r || has R (filter q ys) k) t ∙ h
      by false Less e t h = h
      by false Equal e t h = h ∙ no (q k) (ap q (exact k y t) ∙ e) (has R ys k) (true || has R ys k)
      by false Greater e t h = h

  pub ordered_left : (L : List K) → in_order R (filter q L) ≡ filter q (in_order R L)
  ordered_left L =
      same_sets o (λ x. Unit {0}) (λ x y a b. exact x y) (in_order R (filter q L)) (filter q (in_order R L)) (sorted-in_order o (filter q L)) (sorted_left R q (in_order R L) (sorted-in_order o L))
      (units (in_order R (filter q L))) (units (filter q (in_order R L)))
      (λ k. has-in_order o (filter q L) k ∙ has_left L k ∙ ap (λ b. q k && b) (sym (has-in_order o L k)) ∙ sym (has_left (in_order R L) k))

-- what is found of those that pass, where what is found passes with what it is found of
module _ {X Y : Type 0} (g : X → Option Y) (q : X → Bool) (t : Y → Bool) (same : (x : X) (y : Y) → g x ≡ Some y → t y ≡ q x) where
  pub found_left : (L : List X) → filter_map g (filter q L) ≡ filter t (filter_map g L)
  found_left [] = refl
  found_left (x ∷ xs) = by (q x) (g x) refl refl (same x) (found_left xs)
    where
      by : (c : Bool) (m : Option Y) → q x ≡ c → g x ≡ m → ((y : Y) → g x ≡ Some y → t y ≡ q x) → filter_map g (filter q xs) ≡ filter t (filter_map g xs)
          → filter_map g (cond c (x ∷ filter q xs) (filter q xs)) ≡ filter t (cons_option m (filter_map g xs))
      by true None e f s h = ap (λ m. cons_option m (filter_map g (filter q xs))) f ∙ h
      by true (Some y) e f s h = ap (λ m. cons_option m (filter_map g (filter q xs))) f ∙ ap (λ l. y ∷ l) h ∙ sym (ap (λ b. cond b (y ∷ filter t (filter_map g xs)) (filter t (filter_map g xs))) (s y f ∙ e))
      by false None e f s h = h
      by false (Some y) e f s h = h ∙ sym (ap (λ b. cond b (y ∷ filter t (filter_map g xs)) (filter t (filter_map g xs))) (s y f ∙ e))

found_same : {X Y : Type 0} (f g : X → Option Y) (q : X → Bool) → ((x : X) → q x ≡ true → f x ≡ g x) → (L : List X) → filter_map f (filter q L) ≡ filter_map g (filter q L)
found_same f g q same [] = refl
found_same {X} {Y} f g q same (x ∷ xs) = by (q x) refl (found_same f g q same xs)
  where
    by : (c : Bool) → q x ≡ c → filter_map f (filter q xs) ≡ filter_map g (filter q xs) → filter_map f (cond c (x ∷ filter q xs) (filter q xs)) ≡ filter_map g (cond c (x ∷ filter q xs) (filter q xs))
    by true e h = (λ k. cons_option (same x e k) (h k))
    by false e h = h

is_of_source : (x : Entity) (e : EventValue) → is_of x e ≡ true → x.0 ≡ source_of e
is_of_source x e h = by (subject_of e) h
  where
    by : (m : Option (List ℕ)) → option_map_or (λ own. is_eq (entity_cmp x own)) (option_map (λ subject. (source_of e, subject)) m) false ≡ true → x.0 ≡ source_of e
    by None h = absurd (true≢false (sym h))
    by (Some s) h = exact_bytes x.0 (source_of e) (first_equal (byte_cmp x.0 (source_of e)) (byte_cmp x.1 s) (equal_from (entity_cmp x (source_of e, s)) h))

module _ (p : List ℕ → ℕ) (i : ℕ) where
  abbrev own : EventValue → Bool
  own e = falls_to p i (source_of e)

  abbrev its : Entity → Bool
  its x = falls_to p i x.0

  own_entity : (e : EventValue) (x : Entity) → entity_of e ≡ Some x → its x ≡ own e
  own_entity e x h = by (subject_of e) h
    where
      by : (m : Option (List ℕ)) → option_map (λ subject. (source_of e, subject)) m ≡ Some x → its x ≡ own e
      by None h = absurd (cc)
      by (Some s) h = let same : (source_of e, s) ≡ x = cc in sym (ap its same)

  entities_left : (S : List EventValue) → entities_of (part p i S) ≡ filter its (entities_of S)
  entities_left S =
      ap (in_order entity_cmp) (found_left entity_of own its own_entity S)
      ∙ ordered_left entity_cmp_total exact_entities its (filter_map entity_of S)

  latest_same : (S : List EventValue) (x : Entity) → its x ≡ true → latest_of (part p i S) x ≡ latest_of S x
  latest_same S x h = ap (greatest number_cmp) (filter_narrow (is_of x) own (λ e t. ap (falls_to p i) (sym (is_of_source x e t)) ∙ h) S)

  found_own : (S : List EventValue) (x : Entity) (e : EventValue) → latest_of S x ≡ Some e → own e ≡ its x
  found_own S x e h = let l = latest_is_greatest S x e h in ap (falls_to p i) (sym (is_of_source x e l.of_entity))

  pub latest_part : (E : List EventValue) → latest (part p i E) ≡ part p i (latest E)
  latest_part E =
      let S = shown E in
      ap (λ l. filter_map (latest_of l) (entities_of l)) (shown_part p i E)
      ∙ ap (filter_map (latest_of (part p i S))) (entities_left S)
      ∙ found_same (latest_of (part p i S)) (latest_of S) its (latest_same S) (entities_of S)
      ∙ found_left (latest_of S) its own (found_own S) (entities_of S)
