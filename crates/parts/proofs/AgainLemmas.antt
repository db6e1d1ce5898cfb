-- What an answer tells of events, asked again.
use Rattle.std.proofs.Common.{◌≡◌, ℕ, zero, suc, ◌<◌, List, [], ◌∷◌, Bool, true, false, not, cond, ◌&&◌, ◌||◌, filter, filter_map, length, Option, Some, None, refl, sym, ap, ◌∙◌, subst, arith, is_eq, is_lt, true≢false}
use Rattle.std.specs.Prelude.{Contains, slice_index_or}
use Rattle.std.specs.declared.cmp.Ordering.{Ordering}
use Rattle.std.specs.declared.cmp.Ordering.TheVariants.{Less, Equal, Greater}
use Rattle.std.specs.List.{AllByRecursion, cons_option, list_any}
use Rattle.std.specs.Option.{option_map_or}
use Rattle.std.specs.Ordering.{ordering_then}
use Rattle.std.proofs.lemmas.Cmp.{tied_itself}
use Rattle.std.proofs.lemmas.List.Folds.{list_any_at}
use Rattle.std.proofs.lemmas.Map.Lookups.{exact_bytes}
use Rattle.attributes.specs.Bytes.{byte_cmp}
use Rattle.attributes.specs.Event.{EventValue, text}
use Rattle.attributes.specs.Fault.{IsEvent}
use Rattle.inbox.specs.KeyOrder.{same_key, text_cmp}
use Rattle.inbox.specs.Ordered.{has}
use Rattle.inbox.specs.Sets.{AreEvents, set_of}
use Rattle.inbox.specs.Shown.{is_shown, shown}
use Rattle.inbox.proofs.OrderLemmas.{key_cmp_total, tied_events}
use Rattle.inbox.proofs.SetLemmas.{Contains-from_has, all-in_order, has-from_Contains, has-in_order, sets_are_members}
use Rattle.views.specs.Latest.{entities_of, entity_cmp, entity_of, is_of, latest, latest_of}
use Rattle.views.proofs.GreatestLemmas.{each_there, latest_is_greatest}
use Rattle.views.proofs.OrderLemmas.{entity_cmp_total}
use Rattle.views.proofs.TieLemmas.{entities_have_latest}
use Rattle.parts.proofs.TallyLemmas.{units}

-- ---- what stands in a list

pub at_place : {X : Type 0} (Q : X → Type 0) (xs : List X) (e : X) → AllByRecursion Q xs → Contains xs e → Q e
at_place {X} Q [] e a c = absurd (omega (arith, c.1))
at_place {X} Q (x ∷ xs) e a c = from (at_place Q xs e a.1) c.0 c.1 c.2
  where
    from : (Contains xs e → Q e) → (k : ℕ) → k < length (x ∷ xs) → slice_index_or (x ∷ xs) k e ≡ e → Q e
    from later zero lt at = subst Q at a.0
    from later (suc k) lt at = later (k, omega (arith, lt), at)

module _ {X : Type 0} where
  pub here : (x : X) (xs : List X) → Contains (x ∷ xs) x
  here x xs = (0, omega arith, refl)

  pub later : (y x : X) (xs : List X) → Contains xs x → Contains (y ∷ xs) x
  later y x xs c = (suc c.0, omega (arith, c.1), c.2)

  pub any_in : (q : X → Bool) (xs : List X) (x : X) → Contains xs x → q x ≡ true → list_any q xs ≡ true
  any_in q xs x c h = list_any_at q xs c.0 x c.1 (ap q c.2 ∙ h)

  pub found_in : (q : X → Bool) (xs : List X) → list_any q xs ≡ true → (x : X) × Contains xs x × (q x ≡ true)
  found_in q [] h = absurd (true≢false (sym h))
  found_in q (y ∷ ys) h = by (q y) refl h (found_in q ys)
    where
      by : (b : Bool) → q y ≡ b → (b || list_any q ys) ≡ true → (list_any q ys ≡ true → (x : X) × Contains ys x × (q x ≡ true))
          → (x : X) × Contains (y ∷ ys) x × (q x ≡ true)
      by true e g more = (y, here y ys, e)
      by false e g more = let r = more g in (r.0, later y r.0 ys r.1, r.2)

  -- what no item of a list is, none is of those that stand in it
  pub none_among : (q : X → Bool) (T E : List X) → ((x : X) → Contains T x → Contains E x) → list_any q E ≡ false → list_any q T ≡ false
  none_among q T E sub none = by (list_any q T) refl
    where
      by : (b : Bool) → list_any q T ≡ b → list_any q T ≡ false
      by true e = let f = found_in q T e in absurd (true≢false (sym (any_in q E f.0 (sub f.0 f.1) f.2) ∙ none))
      by false e = e

  pub all_kept : (p : X → Bool) (xs : List X) → ((x : X) → Contains xs x → p x ≡ true) → filter p xs ≡ xs
  all_kept p [] h = refl
  all_kept p (x ∷ xs) h =
      ap (λ b. cond b (x ∷ filter p xs) (filter p xs)) (h x (here x xs)) ∙ ap (λ l. x ∷ l) (all_kept p xs (λ y c. h y (later x y xs c)))

  pub kept_in : (p : X → Bool) (xs : List X) (e : X) → Contains (filter p xs) e → Contains xs e × (p e ≡ true)
  kept_in p [] e c = absurd (omega (arith, c.1))
  kept_in p (x ∷ xs) e c = by (p x) refl (kept_in p xs e) c
    where
      by : (b : Bool) → p x ≡ b → (Contains (filter p xs) e → Contains xs e × (p e ≡ true)) → Contains (cond b (x ∷ filter p xs) (filter p xs)) e → Contains (x ∷ xs) e × (p e ≡ true)
      by true h more (zero, lt, at) = ((0, omega arith, at), ap p (sym at) ∙ h)
      by true h more (suc k, lt, at) = let r = more (k, omega (arith, lt), at) in (later x e xs r.0, r.1)
      by false h more c = let r = more c in (later x e xs r.0, r.1)

module _ {X Y : Type 0} where
  pub mapped_in : (f : X → Option Y) (xs : List X) (y : Y) → Contains (filter_map f xs) y → (x : X) × Contains xs x × (f x ≡ Some y)
  mapped_in f [] y c = absurd (omega (arith, c.1))
  mapped_in f (x ∷ xs) y c = by (f x) refl (mapped_in f xs y) c
    where
      by : (m : Option Y) → f x ≡ m → (Contains (filter_map f xs) y → (z : X) × Contains xs z × (f z ≡ Some y)) → Contains (cons_option m (filter_map f xs)) y
          → (z : X) × Contains (x ∷ xs) z × (f z ≡ Some y)
      by None h more c = let r = more c in (r.0, later x r.0 xs r.1, r.2)
      by (Some z) h more (zero, lt, at) = (x, here x xs, h ∙ ap Some at)
      by (Some z) h more (suc k, lt, at) = let r = more (k, omega (arith, lt), at) in (r.0, later x r.0 xs r.1, r.2)

  pub in_mapped : (f : X → Option Y) (xs : List X) (x : X) (y : Y) → Contains xs x → f x ≡ Some y → Contains (filter_map f xs) y
  in_mapped f [] x y c h = absurd (omega (arith, c.1))
  in_mapped f (z ∷ xs) x y c h = by c.0 c.1 c.2 (λ k. in_mapped f xs x y k h)
    where
      push : (m : Option Y) (ys : List Y) → Contains ys y → Contains (cons_option m ys) y
      push None ys k = k
      push (Some w) ys k = later w y ys k

      by : (k : ℕ) → k < length (z ∷ xs) → slice_index_or (z ∷ xs) k x ≡ x → (Contains xs x → Contains (filter_map f xs) y) → Contains (filter_map f (z ∷ xs)) y
      by zero lt at more = subst (λ m. Contains (cons_option m (filter_map f xs)) y) (sym (ap f at ∙ h)) (here y (filter_map f xs))
      by (suc k) lt at more = push (f z) (filter_map f xs) (more (k, omega (arith, lt), at))

  pub mapped_same : (f g : X → Option Y) (xs : List X) → ((x : X) → Contains xs x → f x ≡ g x) → filter_map f xs ≡ filter_map g xs
  mapped_same f g [] h = refl
  mapped_same f g (x ∷ xs) h = (λ k. cons_option (h x (here x xs) k) (mapped_same f g xs (λ y c. h y (later x y xs c)) k))

-- ---- entities

first_equal : (r s : Ordering) → ordering_then r s ≡ Equal → r ≡ Equal
first_equal Less s h = cc
first_equal Equal s h = refl
first_equal Greater s h = cc

second_equal : (r s : Ordering) → ordering_then r s ≡ Equal → s ≡ Equal
second_equal Less s h = cc
second_equal Equal s h = h
second_equal Greater s h = cc

equal_from : (r : Ordering) → is_eq r ≡ true → r ≡ Equal
equal_from Less h = absurd (true≢false (sym h))
equal_from Equal h = refl
equal_from Greater h = absurd (true≢false (sym h))

abbrev Entity : Type 0
Entity = List ℕ × List ℕ

exact_entities : (x y : Entity) → entity_cmp x y ≡ Equal → x ≡ y
exact_entities x y h =
    let a = exact_bytes x.0 y.0 (first_equal (byte_cmp x.0 y.0) (byte_cmp x.1 y.1) h) in
    let b = exact_bytes x.1 y.1 (second_equal (byte_cmp x.0 y.0) (byte_cmp x.1 y.1) h) in
    (λ k. (a k, b k))

entity_is : (x : Entity) (e : EventValue) → is_of x e ≡ true → entity_of e ≡ Some x
entity_is x e h = by (entity_of e) h
  where
    by : (m : Option Entity) → option_map_or (λ own. is_eq (entity_cmp x own)) m false ≡ true → m ≡ Some x
    by None h = absurd (true≢false (sym h))
    by (Some y) h = ap Some (sym (exact_entities x y (equal_from (entity_cmp x y) h)))

of_entity : (x : Entity) (e : EventValue) → entity_of e ≡ Some x → is_of x e ≡ true
of_entity x e h = ap (λ m. option_map_or (λ own. is_eq (entity_cmp x own)) m false) h ∙ ap is_eq (tied_itself entity_cmp_total x)

one_entity : (x y : Entity) → ◌≡◌ {A = Option Entity} (Some x) (Some y) → x ≡ y
one_entity x y h = cc

bool_same : (a b : Bool) → (a ≡ true → b ≡ true) → (b ≡ true → a ≡ true) → a ≡ b
bool_same true b f g = sym (f refl)
bool_same false true f g = g refl
bool_same false false f g = refl

not_true : (b : Bool) → not b ≡ true → b ≡ false
not_true true h = absurd (true≢false (sym h))
not_true false h = refl

module _ (tells : (e f : EventValue) → IsEvent e → IsEvent f → text e ≡ text f → e ≡ f) where
  -- the events of a set are those of the list
  pub of_set : (M : List EventValue) (e : EventValue) → AreEvents M → Contains (set_of M) e → Contains M e
  of_set M e a c =
      let own = at_place IsEvent (set_of M) e (all-in_order key_cmp_total IsEvent M a) c in
      Contains-from_has key_cmp_total IsEvent (tied_events tells) M e a own (sym (has-in_order key_cmp_total M e) ∙ has-from_Contains key_cmp_total (set_of M) e c)

  pub in_set : (M : List EventValue) (e : EventValue) → AreEvents M → Contains M e → Contains (set_of M) e
  in_set M e a c =
      let own = at_place IsEvent M e a c in
      Contains-from_has key_cmp_total IsEvent (tied_events tells) (set_of M) e (all-in_order key_cmp_total IsEvent M a) own (has-in_order key_cmp_total M e ∙ has-from_Contains key_cmp_total M e c)

  -- of shown events alone, each is shown
  pub shown_again : (E T : List EventValue) → ((e : EventValue) → Contains T e → Contains (shown E) e) → shown T ≡ T
  shown_again E T sub =
      all_kept (is_shown T) T
      (λ e c.
      let own = kept_in (is_shown E) E e (sub e c) in
      ap not (none_among (λ f. same_key f e && is_lt (text_cmp f e)) T E (λ f d. (kept_in (is_shown E) E f (sub f d)).0) (not_true _ own.1)))

  module _ (E : List EventValue) (a : AreEvents E) where
    abbrev S : List EventValue
    S = shown E

    abbrev M : List EventValue
    M = latest E

    abbrev T : List EventValue
    T = set_of M

    latest_in : (e : EventValue) → Contains M e → (x : Entity) × (latest_of S x ≡ Some e)
    latest_in e c = let f = mapped_in (latest_of S) (entities_of S) e c in (f.0, f.2)

    pub in_shown : (e : EventValue) → Contains M e → Contains S e
    in_shown e c = let f = latest_in e c in (latest_is_greatest S f.0 e f.1).is_there

    pub latest_events : AreEvents M
    latest_events = each_there IsEvent M (λ e c. at_place IsEvent E e a (kept_in (is_shown E) E e (in_shown e c)).0)

    of_latest : (e : EventValue) → Contains T e → Contains M e
    of_latest e c = of_set M e latest_events c

    shown_latest : shown T ≡ T
    shown_latest = shown_again E T (λ e c. in_shown e (of_latest e c))

    entity_there : (x : Entity) (e : EventValue) → Contains S e → entity_of e ≡ Some x → Contains (entities_of S) x
    entity_there x e c h =
        Contains-from_has entity_cmp_total (λ x. Unit {0}) (λ x y p q. exact_entities x y) (entities_of S) x (units (entities_of S)) tt
        (has-in_order entity_cmp_total (filter_map entity_of S) x ∙ has-from_Contains entity_cmp_total (filter_map entity_of S) x (in_mapped entity_of S e x c h))

    -- an entity of a shown event has a latest event, which is there
    latest_there : (x : Entity) (e : EventValue) → Contains S e → entity_of e ≡ Some x → (l : EventValue) × (latest_of S x ≡ Some l) × Contains T l × (entity_of l ≡ Some x)
    latest_there x e c h =
        let l = entities_have_latest S x e c (of_entity x e h) in
        let there = in_mapped (latest_of S) (entities_of S) x l.0 (entity_there x e c h) l.1 in
        (l.0, l.1, in_set M l.0 latest_events there, entity_is x l.0 (latest_is_greatest S x l.0 l.1).of_entity)

    entities_same : entities_of T ≡ entities_of S
    entities_same =
        sets_are_members entity_cmp_total (λ x. Unit {0}) (λ x y p q. exact_entities x y) (filter_map entity_of T) (filter_map entity_of S) (units (filter_map entity_of T)) (units (filter_map entity_of S))
        (λ k. bool_same (has entity_cmp (filter_map entity_of T) k) (has entity_cmp (filter_map entity_of S) k)
        (λ h.
        let f = found_in (λ y. is_eq (entity_cmp k y)) (filter_map entity_of T) h in
        let e = mapped_in entity_of T f.0 f.1 in
        any_in (λ y. is_eq (entity_cmp k y)) (filter_map entity_of S) f.0 (in_mapped entity_of S e.0 f.0 (in_shown e.0 (of_latest e.0 e.1)) e.2) f.2)
        (λ h.
        let f = found_in (λ y. is_eq (entity_cmp k y)) (filter_map entity_of S) h in
        let e = mapped_in entity_of S f.0 f.1 in
        let l = latest_there f.0 e.0 e.1 e.2 in
        any_in (λ y. is_eq (entity_cmp k y)) (filter_map entity_of T) f.0 (in_mapped entity_of T l.0 f.0 l.2 l.3) f.2))

    of_shown : (x : Entity) → Contains (entities_of S) x → (e : EventValue) × Contains S e × (entity_of e ≡ Some x)
    of_shown x c =
        let h = sym (has-in_order entity_cmp_total (filter_map entity_of S) x) ∙ has-from_Contains entity_cmp_total (entities_of S) x c in
        let f = found_in (λ y. is_eq (entity_cmp x y)) (filter_map entity_of S) h in
        let e = mapped_in entity_of S f.0 f.1 in
        (e.0, e.1, e.2 ∙ ap Some (sym (exact_entities x f.0 (equal_from (entity_cmp x f.0) f.2))))

    latest_same : (x : Entity) → Contains (entities_of S) x → latest_of T x ≡ latest_of S x
    latest_same x c =
        let e = of_shown x c in
        let l = latest_there x e.0 e.1 e.2 in
        let m = entities_have_latest T x l.0 l.2 (of_entity x l.0 l.3) in
        let is = latest_is_greatest T x m.0 m.1 in
        let f = latest_in m.0 (of_latest m.0 is.is_there) in
        let own = entity_is f.0 m.0 (latest_is_greatest S f.0 m.0 f.1).of_entity in
        let same : f.0 ≡ x = one_entity f.0 x (sym own ∙ entity_is x m.0 is.of_entity) in
        m.1 ∙ sym (ap (latest_of S) (sym same) ∙ f.1)

    pub latest_again : latest T ≡ M
    latest_again =
        ap (λ l. filter_map (latest_of l) (entities_of l)) shown_latest
        ∙ ap (filter_map (latest_of T)) entities_same
        ∙ mapped_same (latest_of T) (latest_of S) (entities_of S) latest_same
