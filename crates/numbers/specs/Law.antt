-- What holds of numberers, whatever was taken.
use Rattle.std.specs.Prelude.{◌≡◌, ℕ, ◌+◌, List, ◌++◌, true, Contains, length, map}
use Rattle.std.specs.List.{range_with_len}
use Rattle.std.specs.declared.cmp.Ordering.TheVariants.{Equal}
use Rattle.attributes.specs.Event.{EventValue, source_of}
use Rattle.inbox.specs.KeyOrder.{key_cmp}
use Rattle.inbox.specs.Ordered.{has}
use Rattle.numbers.specs.Numberer.{IsEachOnce, answers, answers_in_turn, number, of_source, taken}

-- the numbers that a source's events are given have no gap, in the order in which they stand
abbrev pub NumbersHaveNoGap : Type 0
NumbersHaveNoGap =
    (base : List ℕ → ℕ) (A : List EventValue) (source : List ℕ) → IsEachOnce A
    → map (number base A) (of_source source A)
    ≡ range_with_len (base source + 1) (length (of_source source A))

-- a numberer gives one text one number, and one number of a source one text
pub record NumbersTell : Type 0 where
  pub one_number : (base : List ℕ → ℕ) (A : List EventValue) (e f : EventValue)
      → key_cmp e f ≡ Equal → number base A e ≡ number base A f
  pub one_text : (base : List ℕ → ℕ) (A : List EventValue) (e f : EventValue)
      → has key_cmp A e ≡ true → has key_cmp A f ≡ true → source_of e ≡ source_of f
      → number base A e ≡ number base A f → key_cmp e f ≡ Equal

-- further takes change no number that a numberer answered; its list stays one of distinct events
pub record AnswersStay : Type 0 where
  pub kept : (base : List ℕ → ℕ) (A L : List EventValue) (e : EventValue)
      → has key_cmp A e ≡ true → number base (taken A L) e ≡ number base A e
  pub again : (base : List ℕ → ℕ) (A L M : List EventValue)
      → answers base (taken (taken A L) M) L ≡ answers base A L
  pub there : (A L : List EventValue) (e : EventValue) → Contains L e
      → has key_cmp (taken A L) e ≡ true
  pub same_list : (A L : List EventValue) → taken (taken A L) L ≡ taken A L
  pub once : (A L : List EventValue) → IsEachOnce A → IsEachOnce (taken A L)

-- how events to be numbered come in batches tells in no answer
pub record BatchesJoin : Type 0 where
  pub list : (A L M : List EventValue) → taken A (L ++ M) ≡ taken (taken A L) M
  pub joined : (base : List ℕ → ℕ) (A L M : List EventValue)
      → answers base A (L ++ M) ≡ answers base A L ++ answers base (taken A L) M
  pub in_turn : (base : List ℕ → ℕ) (A L : List EventValue)
      → answers_in_turn base A L ≡ answers base A L

-- other sources tell in no given number: a numberer of the event's source alone has the same
abbrev pub OwnSource : Type 0
OwnSource = (base : List ℕ → ℕ) (A : List EventValue) (e : EventValue)
    → number base (of_source (source_of e) A) e ≡ number base A e
