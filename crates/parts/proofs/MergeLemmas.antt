-- A set is that of its parts, one behind the other.
use Rattle.std.proofs.Common.{◌≡◌, ℕ, List, [], ◌∷◌, ◌++◌, Bool, true, false, cond, filter, flat_map, nat_lt, refl, sym, ap, ◌∙◌, is_eq}
use Rattle.std.specs.List.{AllByRecursion, range_with_len}
use Rattle.std.specs.List.Sorted.{IsStrictlySortedBy}
use Rattle.std.specs.declared.cmp.Ordering.{Ordering}
use Rattle.std.specs.declared.cmp.Ordering.TheVariants.{Less}
use Rattle.attributes.specs.Event.{EventValue, source_of, text}
use Rattle.attributes.specs.Fault.{IsEvent}
use Rattle.inbox.specs.KeyOrder.{key_cmp}
use Rattle.inbox.specs.Sets.{AreEvents, set_of}
use Rattle.inbox.specs.Shown.{is_shown, shown}
use Rattle.inbox.proofs.OrderLemmas.{key_cmp_total, tied_events}
use Rattle.inbox.proofs.SetLemmas.{all-in_order, all_append, has-in_order, same_sets, sorted-in_order}
use Rattle.parts.specs.Part.{FallsBelow, falls_to, of_parts, part}
use Rattle.parts.specs.Law.{PartsMerge}
use Rattle.parts.proofs.PartLemmas.{shown_part}
use Rattle.parts.proofs.SumLemmas.{any_counts, whole}

pub all_left : {X : Type 0} (P : X → Type 0) (q : X → Bool) (xs : List X) → AllByRecursion P xs → AllByRecursion P (filter q xs)
all_left P q [] a = tt
all_left {X} P q (x ∷ xs) a = by (q x) (all_left P q xs a.1)
  where
    by : (b : Bool) → AllByRecursion P (filter q xs) → AllByRecursion P (cond b (x ∷ filter q xs) (filter q xs))
    by true r = (a.0, r)
    by false r = r

pub sorted_left : {X : Type 0} (R : X → X → Ordering) (q : X → Bool) (xs : List X) → IsStrictlySortedBy R xs → IsStrictlySortedBy R (filter q xs)
unfolding IsStrictlySortedBy
sorted_left R q [] s = tt
sorted_left {X} R q (x ∷ xs) s =
    elim (q x) as (λ b. IsStrictlySortedBy R (cond b (x ∷ filter q xs) (filter q xs))) [
      | true ↦ (all_left (λ z. R x z ≡ Less) q xs s.0, sorted_left R q xs s.1)
      | false ↦ sorted_left R q xs s.1
    ]

pub all_parts : {X : Type 0} (P : X → Type 0) (f : ℕ → List X) → ((i : ℕ) → AllByRecursion P (f i)) → (is : List ℕ) → AllByRecursion P (flat_map f is)
all_parts P f h [] = tt
all_parts P f h (i ∷ is) = all_append P (f i) (flat_map f is) (h i) (all_parts P f h is)

pub flat_same : {X : Type 0} (f g : ℕ → List X) → ((i : ℕ) → f i ≡ g i) → (is : List ℕ) → flat_map f is ≡ flat_map g is
flat_same f g h [] = refl
flat_same f g h (i ∷ is) = (λ k. h i k ++ flat_same f g h is k)

module _ (tells : (e f : EventValue) → IsEvent e → IsEvent f → text e ≡ text f → e ≡ f) (p : List ℕ → ℕ) (n : ℕ) (falls : FallsBelow p n) where
  merged : (X : List EventValue) → AreEvents X → IsStrictlySortedBy key_cmp X → set_of (of_parts n (λ i. part p i X)) ≡ X
  merged X events sorted =
      let J = of_parts n (λ i. part p i X) in
      let all : AreEvents J = all_parts IsEvent (λ i. part p i X) (λ i. all_left IsEvent (λ e. falls_to p i (source_of e)) X events) (range_with_len 0 n) in
      let test : EventValue → EventValue → Bool = λ k y. is_eq (key_cmp k y) in
      same_sets key_cmp_total IsEvent (tied_events tells) (set_of J) X (sorted-in_order key_cmp_total J) sorted (all-in_order key_cmp_total IsEvent J all) events
      (λ k. has-in_order key_cmp_total J k ∙ any_counts (test k) J ∙ ap (nat_lt 0) (whole p n falls (λ x. cond (test k x) 1 0) X) ∙ sym (any_counts (test k) X))

  of_whole : (A : List EventValue) → AreEvents A → set_of (of_parts n (λ i. part p i (set_of A))) ≡ set_of A
  of_whole A a = merged (set_of A) (all-in_order key_cmp_total IsEvent A a) (sorted-in_order key_cmp_total A)

  of_shown : (A : List EventValue) → AreEvents A → set_of (of_parts n (λ i. shown (part p i (set_of A)))) ≡ shown (set_of A)
  of_shown A a =
      let E = set_of A in
      ap set_of (flat_same (λ i. shown (part p i E)) (λ i. part p i (shown E)) (λ i. shown_part p i E) (range_with_len 0 n))
      ∙ merged (shown E) (all_left IsEvent (is_shown E) E (all-in_order key_cmp_total IsEvent A a)) (sorted_left key_cmp (is_shown E) E (sorted-in_order key_cmp_total A))

pub parts_merge : ((e f : EventValue) → IsEvent e → IsEvent f → text e ≡ text f → e ≡ f) → PartsMerge
parts_merge tells = record { whole = λ p n A falls a. of_whole tells p n falls A a; shown = λ p n A falls a. of_shown tells p n falls A a }
