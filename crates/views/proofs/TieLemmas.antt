-- Each entity has one latest event.
use Rattle.std.proofs.Common.{◌≡◌, ◌<◌, ℕ, zero, suc, List, [], ◌∷◌, Bool, true, false, ◌&&◌, ◌||◌, length, refl, sym, subst, ap, ap₂, ◌∙◌, arith, if◌then◌else◌, Option, Some, None}
use Rattle.std.specs.Prelude.{Contains, cond, filter, fold, not, slice_index_or}
use Rattle.std.specs.declared.cmp.Ordering.{Ordering}
use Rattle.std.specs.declared.cmp.Ordering.TheVariants.{Less, Equal, Greater}
use Rattle.std.specs.Ordering.{is_eq, is_lt, ordering_reverse, ordering_then}
use Rattle.std.specs.List.{AllByRecursion, list_any}
use Rattle.std.specs.Option.{option_map, option_map_or}
use Rattle.std.proofs.lemmas.Cmp.{nat_list_cmp_total, tied_itself}
use Rattle.std.proofs.lemmas.Map.Lookups.{exact_bytes}
use mathlib.Core.Bool.{true≢false}
use Rattle.attributes.specs.Bytes.{byte_cmp}
use Rattle.attributes.specs.Event.{EventValue, id_of, source_of, subject_of, text}
use Rattle.attributes.specs.Fault.{IsEvent}
use Rattle.inbox.specs.KeyOrder.{same_key, text_cmp}
use Rattle.inbox.specs.Laws.{SetLaws}
use Rattle.inbox.specs.Sets.{set_of}
use Rattle.inbox.specs.Shown.{is_shown, shown}
use Rattle.views.specs.Latest.{greater, greatest, is_of, latest_of, number_cmp, entity_cmp, entity_of}
use Rattle.views.specs.Law.{NoneTie, EntitiesHaveLatest}
use Rattle.views.proofs.GapLemmas.{all_kept, all_pass}
use Rattle.views.proofs.GreatestLemmas.{each_there}

-- what holds of each element holds of one that is there
at_place : {X : Type 0} (Q : X → Type 0) (xs : List X) (e : X) → AllByRecursion Q xs → Contains xs e → Q e
at_place {X} Q [] e a c = absurd (omega (arith, c.1))
at_place {X} Q (x ∷ xs) e a c = from (at_place Q xs e a.1) c.0 c.1 c.2
  where
    from : (Contains xs e → Q e) → (k : ℕ) → k < length (x ∷ xs) → slice_index_or (x ∷ xs) k e ≡ e → Q e
    from later zero lt at = subst Q at a.0
    from later (suc k) lt at = later (k, omega (arith, lt), at)

module _ {X : Type 0} (C : X → X → Ordering) where
  some_stays : (xs : List X) (b : X) → (l : X) × (fold (λ best x. Some (greater C best x)) (Some b) xs ≡ Some l)
  some_stays [] b = (b, refl)
  some_stays (x ∷ xs) b = some_stays xs (if is_lt (C b x) then x else b)

  some_of : (xs : List X) → (xs ≡ [] → ⊥) → (l : X) × (greatest C xs ≡ Some l)
  some_of [] h = absurd (h refl)
  some_of (x ∷ xs) h = some_stays xs x

-- an element that passes isn't filtered out
passes : {X : Type 0} (p : X → Bool) (xs : List X) (e : X) → Contains xs e → p e ≡ true → filter p xs ≡ [] → ⊥
passes {X} p [] e c t h = omega (arith, c.1)
passes {X} p (x ∷ xs) e c t h = from (λ k. passes p xs e k t) c.0 c.1 c.2
  where
    none : (b : Bool) → p x ≡ b → cond b (x ∷ filter p xs) (filter p xs) ≡ [] → (p x ≡ true → ⊥) × (filter p xs ≡ [])
    none true is h = absurd (cc)
    none false is h = ((λ t. true≢false (sym t ∙ is)), h)

    from : (Contains xs e → filter p xs ≡ [] → ⊥) → (k : ℕ) → k < length (x ∷ xs) → slice_index_or (x ∷ xs) k e ≡ e → ⊥
    from later zero lt at = (none (p x) refl h).0 (ap p at ∙ t)
    from later (suc k) lt at = later (k, omega (arith, lt), at) (none (p x) refl h).1

pub entities_have_latest : EntitiesHaveLatest
entities_have_latest events entity e c t = some_of number_cmp (filter (is_of entity) events) (passes (is_of entity) events e c t)

-- none passes, so each fails
any_false : {X : Type 0} (q : X → Bool) (xs : List X) → list_any q xs ≡ false → AllByRecursion (λ x. q x ≡ false) xs
any_false q [] h = tt
any_false q (x ∷ xs) h = elim (q x) as (λ b. q x ≡ b → (b || list_any q xs) ≡ false → AllByRecursion (λ x. q x ≡ false) (x ∷ xs)) [
  | true ↦ λ is h. absurd (true≢false h)
  | false ↦ λ is h. (is, any_false q xs h)
] refl h

first_equal : (r s : Ordering) → is_eq (ordering_then r s) ≡ true → r ≡ Equal
first_equal Less s h = absurd (true≢false (sym h))
first_equal Equal s h = refl
first_equal Greater s h = absurd (true≢false (sym h))

second_equal : (r s : Ordering) → is_eq (ordering_then r s) ≡ true → s ≡ Equal
second_equal Less s h = absurd (true≢false (sym h))
second_equal Equal Less h = absurd (true≢false (sym h))
second_equal Equal Equal h = refl
second_equal Equal Greater h = absurd (true≢false (sym h))
second_equal Greater s h = absurd (true≢false (sym h))

-- an event of an entity has its source
source_is : (entity : List ℕ × List ℕ) (e : EventValue) → is_of entity e ≡ true → entity.0 ≡ source_of e
source_is entity e h = elim (subject_of e) as (λ o. option_map_or (λ own. is_eq (entity_cmp entity own)) (option_map (λ subject. (source_of e, subject)) o) false ≡ true → entity.0 ≡ source_of e) [
  | None ↦ λ h. absurd (true≢false (sym h))
  | Some subject ↦ λ h. exact_bytes entity.0 (source_of e) (first_equal (byte_cmp entity.0 (source_of e)) (byte_cmp entity.1 subject) h)
] h

-- events with one source and one id have one key
one_key : (e f : EventValue) → source_of e ≡ source_of f → id_of e ≡ id_of f → same_key e f ≡ true
one_key e f s i =
    ap₂ (λ (x : List ℕ) (y : List ℕ). is_eq (ordering_then (byte_cmp (source_of e) x) (byte_cmp (id_of e) y))) (sym s) (sym i)
    ∙ ap₂ (λ x y. is_eq (ordering_then x y)) (tied_itself nat_list_cmp_total (source_of e)) (tied_itself nat_list_cmp_total (id_of e))

-- a shown event has the least text of its key
least : (E : List EventValue) (e f : EventValue) → is_shown E e ≡ true → Contains E f → same_key f e ≡ true → is_lt (text_cmp f e) ≡ false
least E e f shows there one =
    let fails : list_any (λ g. same_key g e && is_lt (text_cmp g e)) E ≡ false = turned (list_any (λ g. same_key g e && is_lt (text_cmp g e)) E) shows in
    let at : (same_key f e && is_lt (text_cmp f e)) ≡ false = at_place (λ g. (same_key g e && is_lt (text_cmp g e)) ≡ false) E f (any_false (λ g. same_key g e && is_lt (text_cmp g e)) E fails) there in
    ap (λ b. b && is_lt (text_cmp f e)) (sym one) ∙ at
  where
    turned : (b : Bool) → not b ≡ true → b ≡ false
    turned true h = absurd (true≢false (sym h))
    turned false h = refl

neither_less : (r s : Ordering) → s ≡ ordering_reverse r → is_lt r ≡ false → is_lt s ≡ false → r ≡ Equal
neither_less Less s t h k = absurd (true≢false h)
neither_less Equal s t h k = refl
neither_less Greater s t h k = absurd (true≢false (sym (ap is_lt t) ∙ k))

pub none_tie : ((e f : EventValue) → IsEvent e → IsEvent f → text e ≡ text f → e ≡ f) → SetLaws → NoneTie
none_tie tells laws A entity e f are in-e in-f of-e of-f ties = tells e f (event e there-e) (event f there-f) (exact_bytes (text e) (text f) alike)
  where
    E : List EventValue
    E = set_of A

    there : (g : EventValue) → Contains (shown E) g → Contains E g
    there g c = at_place (λ x. Contains E x) (shown E) g (all_kept (is_shown E) (λ x. Contains E x) E (each_there (λ x. Contains E x) E (λ y c. c))) c

    shows : (g : EventValue) → Contains (shown E) g → is_shown E g ≡ true
    shows g c = at_place (λ x. is_shown E x ≡ true) (shown E) g (all_pass (is_shown E) E) c

    event : (g : EventValue) → Contains E g → IsEvent g
    event g c = at_place IsEvent E g (laws.are_events A are) c

    there-e : Contains E e
    there-e = there e in-e

    there-f : Contains E f
    there-f = there f in-f

    sources : source_of e ≡ source_of f
    sources = sym (source_is entity e of-e) ∙ source_is entity f of-f

    ids : id_of e ≡ id_of f
    ids = exact_bytes (id_of e) (id_of f) (second_equal _ (byte_cmp (id_of e) (id_of f)) ties)

    alike : text_cmp e f ≡ Equal
    alike = neither_less (text_cmp e f) (text_cmp f e) (nat_list_cmp_total.antisymm (text f) (text e)) (least E f e (shows f in-f) there-e (one_key e f sources ids)) (least E e f (shows e in-e) there-f (one_key f e (sym sources) (sym ids)))
