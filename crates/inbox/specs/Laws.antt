-- What holds of sets of events, whatever the events are.
use Rattle.std.specs.Prelude.{◌≡◌, List, [], ◌∷◌, ◌||◌, true, Contains}
use Rattle.std.specs.List.Sorted.{IsStrictlySortedBy}
use Rattle.attributes.specs.Event.{EventValue}
use Rattle.attributes.specs.Fault.{IsEvent}
use Rattle.inbox.specs.KeyOrder.{key_cmp}
use Rattle.inbox.specs.Ordered.{append_new, has}
use Rattle.inbox.specs.Sets.{AreEvents, set_of, union}

-- the set of a list has the list's events, each once and in key order, and nothing else tells it
-- from another; it has an event where the event is one of the list, and such an event adds nothing
pub record SetLaws : Type 0 where
  pub sorted : (A : List EventValue) → IsStrictlySortedBy key_cmp (set_of A)
  pub members : (A : List EventValue) (e : EventValue) → has key_cmp (set_of A) e ≡ has key_cmp A e
  pub are_events : (A : List EventValue) → AreEvents A → AreEvents (set_of A)
  pub is_there : (A : List EventValue) (e : EventValue) → AreEvents A → IsEvent e
      → has key_cmp A e ≡ true → Contains A e
  pub is_found : (A : List EventValue) (e : EventValue) → Contains A e → has key_cmp A e ≡ true
  pub again : (A : List EventValue) (e : EventValue) → has key_cmp A e ≡ true
      → set_of A ≡ union (set_of A) (e ∷ [])
  pub same : (A B : List EventValue) → AreEvents A → AreEvents B
      → ((e : EventValue) → has key_cmp A e ≡ has key_cmp B e) → set_of A ≡ set_of B

-- the union of sets of events has what either has; it is associative, commutative and idempotent
pub record UnionLaws : Type 0 where
  pub members : (E F : List EventValue) (e : EventValue)
      → has key_cmp (union E F) e ≡ (has key_cmp E e || has key_cmp F e)
  pub commutative : (A B : List EventValue) → AreEvents A → AreEvents B
      → union (set_of A) (set_of B) ≡ union (set_of B) (set_of A)
  pub associative : (A B C : List EventValue) → AreEvents A → AreEvents B → AreEvents C
      → union (union (set_of A) (set_of B)) (set_of C)
      ≡ union (set_of A) (union (set_of B) (set_of C))
  pub idempotent : (A : List EventValue) → AreEvents A → union (set_of A) (set_of A) ≡ set_of A

-- the set of arrivals is the union of the sets of its parts, whatever arrives again
abbrev pub ArrivalsUnite : Type 0
ArrivalsUnite = (A B : List EventValue) → AreEvents A → AreEvents B
    → set_of (append_new key_cmp A B) ≡ union (set_of A) (set_of B)
