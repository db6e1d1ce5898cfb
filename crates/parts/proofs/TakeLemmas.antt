-- Taking part by part.
use Rattle.std.proofs.Common.{◌≡◌, ℕ, List, [], ◌∷◌, ◌++◌, append-nil, Bool, true, false, cond, ◌&&◌, ◌||◌, if◌then◌else◌, refl, sym, ap, ap₂, ◌∙◌, is_eq, true≢false}
use Rattle.std.specs.Ordering.{ordering_then}
use Rattle.std.specs.declared.cmp.Ordering.{Ordering}
use Rattle.std.specs.declared.cmp.Ordering.TheVariants.{Less, Equal, Greater}
use Rattle.std.proofs.lemmas.List.Elements.{filter-append}
use Rattle.std.proofs.lemmas.Map.Lookups.{exact_bytes}
use Rattle.attributes.specs.Event.{EventValue, source_of, text}
use Rattle.attributes.specs.Fault.{IsEvent}
use Rattle.inbox.specs.KeyOrder.{key_cmp, pair_cmp, text_cmp}
use Rattle.inbox.specs.Ordered.{append_new, has}
use Rattle.inbox.specs.Sets.{AreEvents, set_of, union}
use Rattle.inbox.proofs.OrderLemmas.{key_cmp_total, tied_events}
use Rattle.inbox.proofs.SetLemmas.{all-add_all, all-in_order, has-add_all, has-in_order, same_sets, sorted-add_all, sorted-in_order}
use Rattle.parts.specs.Law.{PartsTake}
use Rattle.parts.specs.Part.{falls_to, part}
use Rattle.parts.proofs.MergeLemmas.{all_left, sorted_left}
use Rattle.parts.proofs.PartLemmas.{any_narrow, any_none, any_split}

first_equal : (r s : Ordering) → ordering_then r s ≡ Equal → r ≡ Equal
first_equal Less s h = cc
first_equal Equal s h = refl
first_equal Greater s h = cc

equal_from : (r : Ordering) → is_eq r ≡ true → r ≡ Equal
equal_from Less h = absurd (true≢false (sym h))
equal_from Equal h = refl
equal_from Greater h = absurd (true≢false (sym h))

tie_source : (e f : EventValue) → is_eq (key_cmp e f) ≡ true → source_of e ≡ source_of f
tie_source e f h = exact_bytes (source_of e) (source_of f) (first_equal _ _ (first_equal (pair_cmp e f) (text_cmp e f) (equal_from (key_cmp e f) h)))

module _ (p : List ℕ → ℕ) (i : ℕ) where
  abbrev own : EventValue → Bool
  own e = falls_to p i (source_of e)

  has_own : (E : List EventValue) (k : EventValue) → own k ≡ true → has key_cmp (part p i E) k ≡ has key_cmp E k
  has_own E k f = any_narrow (λ y. is_eq (key_cmp k y)) own (λ y t. ap (falls_to p i) (sym (tie_source k y t)) ∙ f) E

  has_other : (E : List EventValue) (k : EventValue) → own k ≡ false → has key_cmp (part p i E) k ≡ false
  has_other E k f = any_split (λ y. is_eq (key_cmp k y)) own E ∙ any_none (λ y. own y && is_eq (key_cmp k y)) (λ y. neither y (own y) (is_eq (key_cmp k y)) refl refl) E
    where
      neither : (y : EventValue) (a b : Bool) → own y ≡ a → is_eq (key_cmp k y) ≡ b → (a && b) ≡ false
      neither y true true g t = absurd (true≢false (sym g ∙ ap (falls_to p i) (sym (tie_source k y t)) ∙ f))
      neither y true false g t = refl
      neither y false b g t = refl

  -- what comes to a part is what of it comes to the whole
  pub taken : (A L : List EventValue) → append_new key_cmp (part p i A) (part p i L) ≡ part p i (append_new key_cmp A L)
  taken A [] = refl
  taken A (x ∷ xs) = by (own x) (has key_cmp A x) refl refl (λ B. taken B xs)
    where
      one : (b : Bool) → own x ≡ b → part p i (A ++ x ∷ []) ≡ part p i A ++ cond b (x ∷ []) []
      one b f = filter-append own A (x ∷ []) ∙ ap (λ c. part p i A ++ cond c (x ∷ []) []) f

      by : (b c : Bool) → own x ≡ b → has key_cmp A x ≡ c → ((B : List EventValue) → append_new key_cmp (part p i B) (part p i xs) ≡ part p i (append_new key_cmp B xs))
          → append_new key_cmp (part p i A) (cond b (x ∷ part p i xs) (part p i xs)) ≡ part p i (append_new key_cmp (if c then A else A ++ x ∷ []) xs)
      by true true f h r = ap (λ b. append_new key_cmp (if b then part p i A else part p i A ++ x ∷ []) (part p i xs)) (has_own A x f ∙ h) ∙ r A
      by true false f h r =
          ap (λ b. append_new key_cmp (if b then part p i A else part p i A ++ x ∷ []) (part p i xs)) (has_own A x f ∙ h)
          ∙ ap (λ l. append_new key_cmp l (part p i xs)) (sym (one true f)) ∙ r (A ++ x ∷ [])
      by false true f h r = r A
      by false false f h r = ap (λ l. append_new key_cmp l (part p i xs)) (sym (append-nil (part p i A)) ∙ sym (one false f)) ∙ r (A ++ x ∷ [])

  module _ (tells : (e f : EventValue) → IsEvent e → IsEvent f → text e ≡ text f → e ≡ f) where
    has_same : (E F : List EventValue) (k : EventValue) → has key_cmp E k ≡ has key_cmp F k → has key_cmp (part p i E) k ≡ has key_cmp (part p i F) k
    has_same E F k h = by (own k) refl
      where
        by : (b : Bool) → own k ≡ b → has key_cmp (part p i E) k ≡ has key_cmp (part p i F) k
        by true f = has_own E k f ∙ h ∙ sym (has_own F k f)
        by false f = has_other E k f ∙ sym (has_other F k f)

    pub sets : (A : List EventValue) → AreEvents A → set_of (part p i A) ≡ part p i (set_of A)
    sets A a =
        same_sets key_cmp_total IsEvent (tied_events tells) (set_of (part p i A)) (part p i (set_of A)) (sorted-in_order key_cmp_total (part p i A)) (sorted_left key_cmp own (set_of A) (sorted-in_order key_cmp_total A))
        (all-in_order key_cmp_total IsEvent (part p i A) (all_left IsEvent own A a)) (all_left IsEvent own (set_of A) (all-in_order key_cmp_total IsEvent A a))
        (λ k. has-in_order key_cmp_total (part p i A) k ∙ has_same A (set_of A) k (sym (has-in_order key_cmp_total A k)))

    or_same : (E F : List EventValue) (k : EventValue) → (has key_cmp (part p i E) k || has key_cmp (part p i F) k) ≡ has key_cmp (part p i (union E F)) k
    or_same E F k = by (own k) refl
      where
        by : (b : Bool) → own k ≡ b → (has key_cmp (part p i E) k || has key_cmp (part p i F) k) ≡ has key_cmp (part p i (union E F)) k
        by true f = ap₂ (λ (a b : Bool). a || b) (has_own E k f) (has_own F k f) ∙ sym (has-add_all key_cmp_total E F k) ∙ sym (has_own (union E F) k f)
        by false f = ap₂ (λ (a b : Bool). a || b) (has_other E k f) (has_other F k f) ∙ sym (has_other (union E F) k f)

    pub unions : (A B : List EventValue) → AreEvents A → AreEvents B → union (part p i (set_of A)) (part p i (set_of B)) ≡ part p i (union (set_of A) (set_of B))
    unions A B a b =
        let E = set_of A in let F = set_of B in
        let ea = all-in_order key_cmp_total IsEvent A a in
        let fb = all-in_order key_cmp_total IsEvent B b in
        let es = sorted-in_order key_cmp_total A in
        same_sets key_cmp_total IsEvent (tied_events tells) (union (part p i E) (part p i F)) (part p i (union E F))
        (sorted-add_all key_cmp_total (part p i E) (part p i F) (sorted_left key_cmp own E es)) (sorted_left key_cmp own (union E F) (sorted-add_all key_cmp_total E F es))
        (all-add_all key_cmp_total IsEvent (part p i E) (part p i F) (all_left IsEvent own E ea) (all_left IsEvent own F fb)) (all_left IsEvent own (union E F) (all-add_all key_cmp_total IsEvent E F ea fb))
        (λ k. has-add_all key_cmp_total (part p i E) (part p i F) k ∙ or_same E F k)

pub parts_take : ((e f : EventValue) → IsEvent e → IsEvent f → text e ≡ text f → e ≡ f) → PartsTake
parts_take tells = record { takes = taken; sets = λ p i A a. sets p i tells A a; unions = λ p i A B a b. unions p i tells A B a b }
