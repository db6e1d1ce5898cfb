-- The events in conflict, asked again.
use Rattle.std.proofs.Common.{◌≡◌, ◌<◌, ◌++◌, ℕ, zero, suc, List, [], ◌∷◌, Bool, true, false, cond, not, ◌&&◌, ◌||◌, filter, flat_map, length, map, nat_lt, refl, sym, ap, ap₂, ◌∙◌, subst, arith, is_eq, is_lt, true≢false}
use Rattle.std.specs.Prelude.{Contains, slice_index_or}
use Rattle.std.specs.List.{AllByRecursion, list_any}
use Rattle.std.specs.Ordering.{ordering_then}
use Rattle.std.specs.declared.cmp.Ordering.{Ordering}
use Rattle.std.specs.declared.cmp.Ordering.TheVariants.{Less, Equal, Greater}
use Rattle.std.proofs.lemmas.Cmp.{nat_list_cmp_total, tied_itself}
use Rattle.std.proofs.lemmas.List.Elements.{filter-append}
use Rattle.std.proofs.lemmas.List.Folds.{list_any-append}
use Rattle.std.proofs.lemmas.Map.Lookups.{exact_bytes}
use Rattle.attributes.specs.Bytes.{byte_cmp}
use Rattle.attributes.specs.Event.{EventValue, id_of, source_of, text}
use Rattle.attributes.specs.Fault.{IsEvent}
use Rattle.inbox.specs.Conflicts.{conflict_of, conflicts, is_first_of_several, of_key}
use Rattle.inbox.specs.KeyOrder.{key_cmp, pair_cmp, same_key, text_cmp}
use Rattle.inbox.specs.Sets.{AreEvents, set_of}
use Rattle.inbox.specs.Shown.{is_shown}
use Rattle.inbox.specs.declared.conflict.Conflict.{Conflict}
use Rattle.std.specs.List.Sorted.{IsStrictlySortedBy}
use Rattle.inbox.proofs.OrderLemmas.{key_cmp_total, tied_events}
use Rattle.inbox.proofs.SetLemmas.{all-in_order, all_append, has-in_order, same_sets, sorted-in_order}
use Rattle.parts.proofs.AgainLemmas.{all_kept, any_in, found_in, here, kept_in, later}
use Rattle.parts.proofs.MergeLemmas.{all_left, sorted_left}
use Rattle.parts.proofs.PartLemmas.{and_left, any_split, conflicts_kept, key_source}

-- whether several events of the set have the key of the event
abbrev pub in_conflict : List EventValue → EventValue → Bool
in_conflict E e = nat_lt 1 (length (of_key E e))

-- the events of conflicts, one conflict after the other
abbrev pub all_of : List Conflict → List EventValue
all_of cs = flat_map (λ c. c.events) cs

-- ---- events of one key

equal_from : (r : Ordering) → is_eq r ≡ true → r ≡ Equal
equal_from Less h = absurd (true≢false (sym h))
equal_from Equal h = refl
equal_from Greater h = absurd (true≢false (sym h))

second_equal : (r s : Ordering) → ordering_then r s ≡ Equal → s ≡ Equal
second_equal Less s h = cc
second_equal Equal s h = h
second_equal Greater s h = cc

key_id : (f e : EventValue) → same_key f e ≡ true → id_of f ≡ id_of e
key_id f e h = exact_bytes (id_of f) (id_of e) (second_equal (byte_cmp (source_of f) (source_of e)) (byte_cmp (id_of f) (id_of e)) (equal_from (pair_cmp f e) h))

key_alike : (g f e : EventValue) → same_key f e ≡ true → same_key g f ≡ same_key g e
key_alike g f e h =
    ap₂ (λ s i. is_eq (ordering_then (byte_cmp (source_of g) s) (byte_cmp (id_of g) i))) (key_source f e h) (key_id f e h)

own_key : (e : EventValue) → same_key e e ≡ true
own_key e = ap₂ (λ r s. is_eq (ordering_then r s)) (tied_itself nat_list_cmp_total (source_of e)) (tied_itself nat_list_cmp_total (id_of e))

key_turned : (f e : EventValue) → same_key f e ≡ true → same_key e f ≡ true
key_turned f e h = key_alike e f e h ∙ own_key e

filter_same : {X : Type 0} (p q : X → Bool) → ((x : X) → p x ≡ q x) → (xs : List X) → filter p xs ≡ filter q xs
filter_same p q h [] = refl
filter_same p q h (x ∷ xs) = ap₂ (λ b l. cond b (x ∷ l) l) (h x) (filter_same p q h xs)

of_key_same : (E : List EventValue) (e f : EventValue) → same_key f e ≡ true → of_key E f ≡ of_key E e
of_key_same E e f h = filter_same (λ g. same_key g f) (λ g. same_key g e) (λ g. key_alike g f e h) E

conflict_alike : (E : List EventValue) (e f : EventValue) → same_key f e ≡ true → in_conflict E f ≡ in_conflict E e
conflict_alike E e f h = ap (λ l. nat_lt 1 (length l)) (of_key_same E e f h)

-- ---- lists of lists

any_flat : {X Y : Type 0} (q : Y → Bool) (f : X → List Y) (xs : List X) → list_any q (flat_map f xs) ≡ list_any (λ x. list_any q (f x)) xs
any_flat q f [] = refl
any_flat q f (x ∷ xs) = list_any-append q (f x) (flat_map f xs) ∙ ap (λ b. list_any q (f x) || b) (any_flat q f xs)

all_flat : {X Y : Type 0} (P : Y → Type 0) (f : X → List Y) → ((x : X) → AllByRecursion P (f x)) → (xs : List X) → AllByRecursion P (flat_map f xs)
all_flat P f h [] = tt
all_flat P f h (x ∷ xs) = all_append P (f x) (flat_map f xs) (h x) (all_flat P f h xs)

flat_mapped : (E L : List EventValue) → all_of (map (conflict_of E) L) ≡ flat_map (of_key E) L
flat_mapped E [] = refl
flat_mapped E (e ∷ L) = ap (λ l. of_key E e ++ l) (flat_mapped E L)

bool_same : (a b : Bool) → (a ≡ true → b ≡ true) → (b ≡ true → a ≡ true) → a ≡ b
bool_same true b f g = sym (f refl)
bool_same false true f g = g refl
bool_same false false f g = refl

and_right : (a b : Bool) → (a && b) ≡ true → b ≡ true
and_right true b h = h
and_right false b h = absurd (true≢false (sym h))

both_true : (a b : Bool) → a ≡ true → b ≡ true → (a && b) ≡ true
both_true a b g h = ap₂ (λ x y. x && y) g h

-- ---- of the events of a key one is shown

abbrev is_less : EventValue → EventValue → Bool
is_less g f = is_lt (text_cmp g f)

not_itself : (f : EventValue) → is_less f f ≡ false
not_itself f = ap is_lt (tied_itself nat_list_cmp_total (text f))

-- what none is less than, none is less than what comes before it
none_lesser : (x m : EventValue) → text_cmp x m ≡ Less → (L : List EventValue) → list_any (λ g. is_less g m) L ≡ false → list_any (λ g. is_less g x) L ≡ false
none_lesser x m below [] h = refl
none_lesser x m below (g ∷ L) h =
    by (text_cmp g x) refl (none_lesser x m below L)
  where
    or_left : (a b : Bool) → (a || b) ≡ false → a ≡ false
    or_left true b h = h
    or_left false b h = refl

    or_right : (a b : Bool) → (a || b) ≡ false → b ≡ false
    or_right true b h = absurd (true≢false h)
    or_right false b h = h

    by : (r : Ordering) → text_cmp g x ≡ r → (list_any (λ k. is_less k m) L ≡ false → list_any (λ k. is_less k x) L ≡ false) → (is_lt (text_cmp g x) || list_any (λ k. is_less k x) L) ≡ false
    by Less e more = absurd (true≢false (sym (ap is_lt (nat_list_cmp_total.trans (text g) (text x) (text m) e below)) ∙ or_left (is_less g m) (list_any (λ k. is_less k m) L) h))
    by Equal e more = ap₂ (λ r b. is_lt r || b) e (more (or_right (is_less g m) (list_any (λ k. is_less k m) L) h))
    by Greater e more = ap₂ (λ r b. is_lt r || b) e (more (or_right (is_less g m) (list_any (λ k. is_less k m) L) h))

least : (x : EventValue) (xs : List EventValue) → (f : EventValue) × Contains (x ∷ xs) f × (list_any (λ g. is_less g f) (x ∷ xs) ≡ false)
least x [] = (x, here x [], ap (λ b. b || false) (not_itself x))
least x (y ∷ ys) = from (least y ys)
  where
    from : (f : EventValue) × Contains (y ∷ ys) f × (list_any (λ g. is_less g f) (y ∷ ys) ≡ false) → (f : EventValue) × Contains (x ∷ y ∷ ys) f × (list_any (λ g. is_less g f) (x ∷ y ∷ ys) ≡ false)
    from (m, there, none) = by (text_cmp x m) refl
      where
        by : (r : Ordering) → text_cmp x m ≡ r → (f : EventValue) × Contains (x ∷ y ∷ ys) f × (list_any (λ g. is_less g f) (x ∷ y ∷ ys) ≡ false)
        by Less e = (x, here x (y ∷ ys), ap₂ (λ a b. a || b) (not_itself x) (none_lesser x m e (y ∷ ys) none))
        by Equal e = (m, later x m (y ∷ ys) there, ap₂ (λ r b. is_lt r || b) e none)
        by Greater e = (m, later x m (y ∷ ys) there, ap₂ (λ r b. is_lt r || b) e none)

least_in : (L : List EventValue) (e : EventValue) → Contains L e → (f : EventValue) × Contains L f × (list_any (λ g. is_less g f) L ≡ false)
least_in [] e c = absurd (omega (arith, c.1))
least_in (x ∷ xs) e c = least x xs

any_same : {X : Type 0} (p q : X → Bool) → ((x : X) → p x ≡ q x) → (xs : List X) → list_any p xs ≡ list_any q xs
any_same p q h [] = refl
any_same p q h (x ∷ xs) = ap₂ (λ a b. a || b) (h x) (any_same p q h xs)

in_filter : {X : Type 0} (p : X → Bool) (xs : List X) (x : X) → Contains xs x → p x ≡ true → Contains (filter p xs) x
in_filter p [] x c h = absurd (omega (arith, c.1))
in_filter {X} p (z ∷ xs) x c h = by (p z) refl c.0 c.1 c.2 (λ k. in_filter p xs x k h)
  where
    by : (b : Bool) → p z ≡ b → (k : ℕ) → k < length (z ∷ xs) → slice_index_or (z ∷ xs) k x ≡ x → (Contains xs x → Contains (filter p xs) x) → Contains (cond b (z ∷ filter p xs) (filter p xs)) x
    by true e zero lt at more = (0, omega arith, at)
    by true e (suc k) lt at more = later z x (filter p xs) (more (k, omega (arith, lt), at))
    by false e zero lt at more = absurd (true≢false (sym h ∙ ap p (sym at) ∙ e))
    by false e (suc k) lt at more = more (k, omega (arith, lt), at)

module _ (E : List EventValue) where
  -- the shown event of the key of an event
  shown_of : (e : EventValue) → Contains E e → (f : EventValue) × Contains E f × (same_key f e ≡ true) × (is_shown E f ≡ true)
  shown_of e c =
      let m = least_in (of_key E e) e (in_filter (λ g. same_key g e) E e c (own_key e)) in
      let f = m.0 in
      let own = kept_in (λ g. same_key g e) E f m.1 in
      let none : list_any (λ g. same_key g f && is_less g f) E ≡ false =
      any_same (λ g. same_key g f && is_less g f) (λ g. same_key g e && is_less g f) (λ g. ap (λ b. b && is_less g f) (key_alike g f e own.1)) E
      ∙ sym (any_split (λ g. is_less g f) (λ g. same_key g e) E) ∙ m.2 in
      (f, own.0, own.1, ap not none)

  abbrev first : EventValue → Bool
  first = is_first_of_several E

  abbrev M : List EventValue
  M = all_of (conflicts E)

  abbrev F : List EventValue
  F = filter (in_conflict E) E

  of_firsts : M ≡ flat_map (of_key E) (filter first E)
  of_firsts = flat_mapped E (filter first E)

  any_told : (q : EventValue → Bool) → list_any q M ≡ list_any q F
  any_told q =
      ap (list_any q) of_firsts ∙ any_flat q (of_key E) (filter first E)
      ∙ any_split (λ x. list_any q (of_key E x)) first E
      ∙ bool_same (list_any (λ x. first x && list_any q (of_key E x)) E) (list_any (λ x. in_conflict E x && q x) E) there back
      ∙ sym (any_split q (in_conflict E) E)
    where
      there : list_any (λ x. first x && list_any q (of_key E x)) E ≡ true → list_any (λ x. in_conflict E x && q x) E ≡ true
      there h =
          let x = found_in (λ x. first x && list_any q (of_key E x)) E h in
          let is_first = and_left (first x.0) (list_any q (of_key E x.0)) x.2 in
          let y = found_in q (of_key E x.0) (and_right (first x.0) (list_any q (of_key E x.0)) x.2) in
          let own = kept_in (λ g. same_key g x.0) E y.0 y.1 in
          let several = conflict_alike E x.0 y.0 own.1 ∙ and_right (is_shown E x.0) (in_conflict E x.0) is_first in
          any_in (λ z. in_conflict E z && q z) E y.0 own.0 (both_true (in_conflict E y.0) (q y.0) several y.2)

      back : list_any (λ x. in_conflict E x && q x) E ≡ true → list_any (λ x. first x && list_any q (of_key E x)) E ≡ true
      back h =
          let y = found_in (λ x. in_conflict E x && q x) E h in
          let several = and_left (in_conflict E y.0) (q y.0) y.2 in
          let passes = and_right (in_conflict E y.0) (q y.0) y.2 in
          let f = shown_of y.0 y.1 in
          let is_first = both_true (is_shown E f.0) (in_conflict E f.0) f.3 (conflict_alike E y.0 f.0 f.2 ∙ several) in
          let there : list_any q (of_key E f.0) ≡ true =
          any_split q (λ g. same_key g f.0) E ∙ any_in (λ g. same_key g f.0 && q g) E y.0 y.1 (both_true (same_key y.0 f.0) (q y.0) (key_turned f.0 y.0 f.2) passes) in
          any_in (λ x. first x && list_any q (of_key E x)) E f.0 f.1 (both_true (first f.0) (list_any q (of_key E f.0)) is_first there)

  pub conflict_events : AreEvents E → AreEvents M
  conflict_events a = subst AreEvents (sym of_firsts) (all_flat IsEvent (of_key E) (λ e. all_left IsEvent (λ f. same_key f e) E a) (filter first E))

  kept_same : conflicts F ≡ conflicts E
  kept_same =
      conflicts_kept (in_conflict E) (conflict_alike E) E
      ∙ ap (map (conflict_of E))
      (all_kept (in_conflict E) (filter first E)
      (λ x c. and_right (is_shown E x) (in_conflict E x) (kept_in first E x c).1))

  pub conflicts_again : ((e f : EventValue) → IsEvent e → IsEvent f → text e ≡ text f → e ≡ f) → AreEvents E → IsStrictlySortedBy key_cmp E → conflicts (set_of M) ≡ conflicts E
  conflicts_again tells a sorted =
      ap conflicts
      (same_sets key_cmp_total IsEvent (tied_events tells) (set_of M) F (sorted-in_order key_cmp_total M) (sorted_left key_cmp (in_conflict E) E sorted)
      (all-in_order key_cmp_total IsEvent M (conflict_events a)) (all_left IsEvent (in_conflict E) E a)
      (λ k. has-in_order key_cmp_total M k ∙ any_told (λ y. is_eq (key_cmp k y))))
      ∙ kept_same

-- ---- those of a part

filter_fixed : {X : Type 0} (q : X → Bool) (b : Bool) (xs : List X) → AllByRecursion (λ x. q x ≡ b) xs → filter q xs ≡ cond b xs []
filter_fixed q true [] a = refl
filter_fixed q false [] a = refl
filter_fixed q true (x ∷ xs) a = ap₂ (λ b l. cond b (x ∷ l) l) a.0 (filter_fixed q true xs a.1)
filter_fixed q false (x ∷ xs) a = ap₂ (λ b l. cond b (x ∷ l) l) a.0 (filter_fixed q false xs a.1)

module _ (own : EventValue → Bool) (alike : (e f : EventValue) → same_key f e ≡ true → own f ≡ own e) (E : List EventValue) where
  key_fixed : (e : EventValue) → filter own (of_key E e) ≡ cond (own e) (of_key E e) []
  key_fixed e = filter_fixed own (own e) (of_key E e) (passing (λ f. same_key f e) (λ f. own f ≡ own e) (λ f h. alike e f h) E)
    where
      passing : (q : EventValue → Bool) (P : EventValue → Type 0) → ((x : EventValue) → q x ≡ true → P x) → (xs : List EventValue) → AllByRecursion P (filter q xs)
      passing q P h [] = tt
      passing q P h (x ∷ xs) = by (q x) refl (passing q P h xs)
        where
          by : (b : Bool) → q x ≡ b → AllByRecursion P (filter q xs) → AllByRecursion P (cond b (x ∷ filter q xs) (filter q xs))
          by true e r = (h x e, r)
          by false e r = r

  own_flat : (L : List EventValue) → flat_map (of_key E) (filter own L) ≡ filter own (flat_map (of_key E) L)
  own_flat [] = refl
  own_flat (e ∷ L) =
      by (own e) (own_flat L) ∙ ap (λ l. l ++ filter own (flat_map (of_key E) L)) (sym (key_fixed e)) ∙ sym (filter-append own (of_key E e) (flat_map (of_key E) L))
    where
      by : (b : Bool) → flat_map (of_key E) (filter own L) ≡ filter own (flat_map (of_key E) L) → flat_map (of_key E) (cond b (e ∷ filter own L) (filter own L)) ≡ cond b (of_key E e) [] ++ filter own (flat_map (of_key E) L)
      by true h = ap (λ l. of_key E e ++ l) h
      by false h = h

  pub conflicts_own : all_of (conflicts (filter own E)) ≡ filter own (all_of (conflicts E))
  conflicts_own =
      ap all_of (conflicts_kept own alike E) ∙ flat_mapped E (filter own (filter (is_first_of_several E) E)) ∙ own_flat (filter (is_first_of_several E) E)
      ∙ ap (filter own) (sym (flat_mapped E (filter (is_first_of_several E) E)))
