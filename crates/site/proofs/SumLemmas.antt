-- Which numbers arrivals have, one event more, and as a set.
use Rattle.std.proofs.Common.{◌≡◌, ℕ, zero, suc, List, [], ◌∷◌, ◌++◌, Bool, true, false, ◌||◌, ◌&&◌, if◌then◌else◌, refl, sym, subst, ap, ◌∙◌, arith}
use Rattle.std.specs.Prelude.{bytes_eq, ◌==◌, Some, Contains}
use Rattle.std.specs.List.{AllByRecursion, list_any}
use Rattle.std.proofs.lemmas.List.Folds.{list_any-append, list_any_at}
use mathlib.Core.Bool.{true≢false}
use Rattle.attributes.specs.Event.{EventValue, source_of}
use Rattle.attributes.specs.Fault.{IsEvent}
use Rattle.attributes.specs.Sequence.{number_of}
use Rattle.coverage.specs.Summary.{Sources, holds_at}
use Rattle.inbox.specs.KeyOrder.{key_cmp}
use Rattle.inbox.specs.Laws.{SetLaws}
use Rattle.inbox.specs.Ordered.{append_new, has}
use Rattle.inbox.specs.Sets.{AreEvents, set_of}
use Rattle.views.specs.Number.{HasNumbers, has_number, is_number, is_numbered}

or_false : (b : Bool) → (b || false) ≡ b
or_false true = refl
or_false false = refl

same_tests : (a b : Bool) → (a ≡ true → b ≡ true) → (b ≡ true → a ≡ true) → a ≡ b
same_tests true b f g = sym (f refl)
same_tests false true f g = g refl
same_tests false false f g = refl

-- a test that is met already
absorbed : (a b : Bool) → (b ≡ true → a ≡ true) → (a || b) ≡ a
absorbed true b f = refl
absorbed false true f = sym (f refl)
absorbed false false f = refl

-- what passes a test is an item
found : {X : Type 0} (p : X → Bool) (xs : List X) → list_any p xs ≡ true → (x : X) × (Contains xs x × (p x ≡ true))
found p [] h = absurd (true≢false (sym h))
found p (x ∷ xs) h =
    elim (p x) as (λ b. p x ≡ b → (b || list_any p xs) ≡ true → (y : _) × (Contains (x ∷ xs) y × (p y ≡ true))) [
      | true ↦ λ t _. (x, ((0, omega arith, refl), t))
      | false ↦ λ _ t. let more = found p xs t in (more.0, ((suc more.1.0.0, omega (arith, more.1.0.1), more.1.0.2), more.1.1))
    ] refl h

-- what a list contains passes its test
passes : {X : Type 0} (p : X → Bool) (xs : List X) (x : X) → Contains xs x → p x ≡ true → list_any p xs ≡ true
passes p xs x c t = list_any_at p xs c.0 x c.1 (ap p c.2 ∙ t)

item_is : {X : Type 0} (P : X → Type 0) (xs : List X) (x : X) → AllByRecursion P xs → Contains xs x → P x
item_is P [] x a c = absurd (omega (arith, c.1))
item_is P (y ∷ ys) x a (zero, l, e) = subst P e a.0
item_is P (y ∷ ys) x a (suc k, l, e) = item_is P ys x a.1 (k, omega (arith, l), e)

-- the number of an event, as it is inserted
pub is_numbered-is : (e : EventValue) (named s : List ℕ) (m n : ℕ) → named ≡ source_of e → number_of e ≡ Some m → (bytes_eq s named && (n == m)) ≡ is_numbered e s n
is_numbered-is e named s m n same numbered =
    ap (λ t. bytes_eq s t && (n == m)) same ∙ ap (λ o. bytes_eq s (source_of e) && is_number o n) (sym numbered)

module _ (laws : SetLaws) where
  -- one more event has come, and its number was added
  pub numbers_more : (A : List EventValue) (e : EventValue) (old new : Sources) → AreEvents A → IsEvent e → HasNumbers A old
      → ((s : List ℕ) (n : ℕ) → holds_at new s n ≡ (holds_at old s n || is_numbered e s n)) → HasNumbers (append_new key_cmp A (e ∷ [])) new
  numbers_more A e old new are is was added =
      elim (has key_cmp A e) as (λ b. has key_cmp A e ≡ b → (s : List ℕ) (n : ℕ) → holds_at new s n ≡ has_number (if b then A else A ++ e ∷ []) s n) [
        | true ↦ λ t s n. added s n ∙ ap (λ b. b || is_numbered e s n) (was s n)
            ∙ absorbed (has_number A s n) (is_numbered e s n) (passes (λ x. is_numbered x s n) A e (laws.is_there A e are is t))
        | false ↦ λ t s n. added s n ∙ ap (λ b. b || is_numbered e s n) (was s n)
            ∙ sym (list_any-append (λ x. is_numbered x s n) A (e ∷ []) ∙ ap (λ b. has_number A s n || b) (or_false (is_numbered e s n)))
      ] refl

  -- the set has the numbers that came
  pub has_number-set_of : (A : List EventValue) → AreEvents A → (s : List ℕ) (n : ℕ) → has_number (set_of A) s n ≡ has_number A s n
  has_number-set_of A are s n = same_tests _ _ down up
    where
      down : has_number (set_of A) s n ≡ true → has_number A s n ≡ true
      down h =
          let x = found (λ e. is_numbered e s n) (set_of A) h in
          let event = item_is IsEvent (set_of A) x.0 (laws.are_events A are) x.1.0 in
          passes (λ e. is_numbered e s n) A x.0 (laws.is_there A x.0 are event (sym (laws.members A x.0) ∙ laws.is_found (set_of A) x.0 x.1.0)) x.1.1

      up : has_number A s n ≡ true → has_number (set_of A) s n ≡ true
      up h =
          let x = found (λ e. is_numbered e s n) A h in
          let event = item_is IsEvent A x.0 are x.1.0 in
          passes (λ e. is_numbered e s n) (set_of A) x.0 (laws.is_there (set_of A) x.0 (laws.are_events A are) event (laws.members A x.0 ∙ laws.is_found A x.0 x.1.0)) x.1.1
