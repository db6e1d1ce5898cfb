-- The events of a source and an id stand side by side in a set, the shown one first.
use Rattle.std.proofs.Common.{◌≡◌, ◌≢◌, ℕ, zero, suc, ◌+◌, List, [], ◌∷◌, Bool, true, false, ◌||◌, ◌&&◌, cond, filter, map, take, drop, Some, slice_get, Result, Ok, Err, bytes_eq, refl, sym, ap, ◌∙◌, arith}
use Rattle.std.specs.Prelude.{Contains}
use Rattle.std.specs.declared.cmp.Ordering.{Ordering}
use Rattle.std.specs.declared.cmp.Ordering.TheVariants.{Less, Equal, Greater}
use Rattle.std.specs.Ordering.{is_eq, ordering_then}
use Rattle.std.specs.List.{list_any}
use Rattle.std.specs.Result.{OnErr}
use Rattle.std.proofs.lemmas.Map.Text.{is_eq-slice_cmp}
use Rattle.std.proofs.lemmas.Slice.Eq.{bytes_eq-Decides}
use Rattle.attributes.specs.Bytes.{byte_cmp}
use Rattle.attributes.specs.Event.{EventValue, id_of, source_of}
use Rattle.block_digests.proofs.ListLemmas.{and_left, and_right}
use Rattle.inbox.specs.Conflicts.{conflict_of, conflicts, is_first_of_several, of_key}
use Rattle.inbox.specs.KeyOrder.{same_key}
use Rattle.inbox.specs.Shown.{IsShownOf, NoneHas, has_key}
use Rattle.inbox.specs.declared.conflict.Conflict.{Conflict}
use Rattle.site.specs.Key.{with_key}
use Rattle.site.proofs.TakeLemmas.{get_further}

filter_same : {X : Type 0} (p q : X → Bool) (xs : List X) → ((x : X) → p x ≡ q x) → filter p xs ≡ filter q xs
filter_same p q [] same = refl
filter_same p q (x ∷ xs) same =
    ap (λ b. cond b (x ∷ filter p xs) (filter p xs)) (same x)
    ∙ ap (λ l. cond (q x) (x ∷ l) l) (filter_same p q xs same)

filter_none : {X : Type 0} (p : X → Bool) (xs : List X) → list_any p xs ≡ false → filter p xs ≡ []
filter_none p [] h = refl
filter_none p (x ∷ xs) h = by_first (p x) (filter_none p xs) h
  where
    by_first : (b : Bool) → (list_any p xs ≡ false → filter p xs ≡ []) → (b || list_any p xs) ≡ false → cond b (x ∷ filter p xs) (filter p xs) ≡ []
    by_first true rest h = absurd (cc)
    by_first false rest h = rest h

filter_some : {X : Type 0} (p : X → Bool) (xs : List X) (i : ℕ) (x : X) → slice_get xs i ≡ Some x → p x ≡ true → filter p xs ≢ []
filter_some p [] i x h t = absurd (cc)
filter_some p (y ∷ ys) zero x h t = let same : y ≡ x = cc in by_first (p y) (ap p same ∙ t)
  where
    by_first : (b : Bool) → b ≡ true → cond b (y ∷ filter p ys) (filter p ys) ≢ []
    by_first true e = λ n. cc
    by_first false e = absurd (cc)
filter_some p (y ∷ ys) (suc i) x h t = by_first (p y) (filter_some p ys i x h t)
  where
    by_first : (b : Bool) → filter p ys ≢ [] → cond b (y ∷ filter p ys) (filter p ys) ≢ []
    by_first true n = λ e. cc
    by_first false n = n

-- an event's key is its source and its id
key_is : (e f : EventValue) → same_key f e ≡ has_key (source_of e) (id_of e) f
key_is e f =
    both (byte_cmp (source_of f) (source_of e)) (byte_cmp (id_of f) (id_of e))
    ∙ (λ k. is_eq-slice_cmp (source_of f) (source_of e) k && is_eq-slice_cmp (id_of f) (id_of e) k)
  where
    both : (a b : Ordering) → is_eq (ordering_then a b) ≡ (is_eq a && is_eq b)
    both Less b = refl
    both Equal b = refl
    both Greater b = refl

-- the events of an event's key are those of its source and its id
pub of_key-is : (E : List EventValue) (e : EventValue) → of_key E e ≡ with_key (source_of e) (id_of e) E
of_key-is E e = filter_same (λ f. same_key f e) (has_key (source_of e) (id_of e)) E (key_is e)

module _ (E : List EventValue) (source id : List ℕ) (e : EventValue) (shown : IsShownOf E source id e) where
  source_is : source_of e ≡ source
  source_is = (bytes_eq-Decides (source_of e) source).0 (and_left (bytes_eq (source_of e) source) (bytes_eq (id_of e) id) shown.of_key)

  id_is : id_of e ≡ id
  id_is = (bytes_eq-Decides (id_of e) id).0 (and_right (bytes_eq (source_of e) source) (bytes_eq (id_of e) id) shown.of_key)

  -- they are the events of the key of the shown one
  pub key_run : of_key E e ≡ with_key source id E
  key_run = of_key-is E e ∙ ap (λ s. with_key s (id_of e) E) source_is ∙ ap (λ i. with_key source i E) id_is

  -- there is one
  pub key_some : with_key source id E ≢ []
  key_some = filter_some (has_key source id) E shown.place e shown.is_there shown.of_key

-- whoever wants memory may
pub wanted : {T E : Type 0} (r : Result T E) (P : Type 0) → P → OnErr r P
wanted (Ok t) P p = tt
wanted (Err e) P p = p

-- where no event has them there are none
pub key_none : (E : List EventValue) (source id : List ℕ) → NoneHas E source id → with_key source id E ≡ []
key_none E source id none = filter_none (has_key source id) E none

-- the first of a run is the one that it begins at
pub run_first : (E : List EventValue) (place n : ℕ) (e f : EventValue) → slice_get E place ≡ Some e → slice_get (take n (drop place E)) 0 ≡ Some f → f ≡ e
run_first E place n e f here first = some_is f e (sym first ∙ first_of n (drop place E) first ∙ get_further E place 0 ∙ ap (slice_get E) there ∙ here)
  where
    there : place + 0 ≡ place
    there = omega arith

    some_is : (a b : EventValue) → Some a ≡ Some b → a ≡ b
    some_is a b h = cc

    first_of : (n : ℕ) (L : List EventValue) → slice_get (take n L) 0 ≡ Some f → slice_get (take n L) 0 ≡ slice_get L 0
    first_of zero L h = absurd (cc)
    first_of (suc n) [] h = refl
    first_of (suc n) (x ∷ xs) h = refl

-- what is contained in the images of items is one of them
image_of : {X Y : Type 0} (f : X → Y) (xs : List X) (y : Y) → Contains (map f xs) y → (x : X) × (y ≡ f x)
image_of f [] y c = absurd (omega (arith, c.1))
image_of f (x ∷ xs) y (zero, l, e) = (x, sym e)
image_of f (x ∷ xs) y (suc k, l, e) = image_of f xs y (k, omega (arith, l), e)

-- a conflict's events are those of its source and its id
pub conflict_found : (E : List EventValue) (c : Conflict) → Contains (conflicts E) c → with_key c.source c.id E ≡ c.events
conflict_found E c there =
    let one = image_of (conflict_of E) (filter (is_first_of_several E) E) c there in
    ap (λ d. with_key d.source d.id E) one.1 ∙ sym (of_key-is E one.0) ∙ ap (λ d. d.events) (sym one.1)
