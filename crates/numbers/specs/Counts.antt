-- What is counted of a list of events without numbers.
use Rattle.std.specs.Prelude.{◌≡◌, ℕ, suc, ◌+◌, List, length, true, Some, None, is_some, unwrap_or, if◌then◌else◌}
use Rattle.std.specs.List.{AllByRecursion}
use Rattle.attributes.specs.Event.{EventValue, text}
use Rattle.attributes.specs.Fault.{IsEvent}
use Rattle.attributes.specs.Members.{value_at, with_value}
use Rattle.inbox.specs.KeyOrder.{key_cmp}
use Rattle.inbox.specs.Ordered.{has}
use Rattle.numbers.specs.Filter.{KeepsTexts, MayHave}
use Rattle.numbers.specs.Numbered.{AreBare, HaveNumbers}
use Rattle.numbers.specs.Numberer.{IsEachOnce, number, of_source}

-- numbers of texts, in byte order of these
abbrev pub TextNumbers : Type 0
TextNumbers = List (List ℕ × ℕ)

-- a numberer's counts: the last number of each source, what a source begins behind that has none
-- yet, a filter of the texts that have numbers, and some of these texts with theirs
pub record Counts : Type 0 where
  pub last : List (List ℕ × ℕ)
  pub base : ℕ
  pub seen : List ℕ
  pub recent : TextNumbers

-- the next number that a numberer gives a source
abbrev pub next : Counts → List ℕ → ℕ
next c source = suc (unwrap_or (value_at source c.last) c.base)

-- the second counts are the first with one event more, of this text and source
pub record IsCounted (old new : Counts) (t source : List ℕ) : Type 0 where
  pub last : new.last ≡ with_value source (next old source) old.last
  pub base : new.base ≡ old.base
  pub has : MayHave new.seen t
  pub keeps : KeepsTexts old.seen new.seen
  pub recent : new.recent ≡ old.recent

-- ---- what is known of texts

-- these numbers of texts have that of the event
abbrev pub HasText : TextNumbers → EventValue → Type 0
HasText known e = is_some (value_at (text e) known) ≡ true

-- these numbers of texts tell of an event whether the list has its text, and with which number
abbrev pub Knows : (List ℕ → ℕ) → List EventValue → TextNumbers → EventValue → Type 0
Knows base A known e =
    value_at (text e) known ≡ (if has key_cmp A e then Some (number base A e) else None)

-- they tell so of each event of L
abbrev pub KnowsEach : (List ℕ → ℕ) → List EventValue → TextNumbers → List EventValue → Type 0
KnowsEach base A known L = AllByRecursion (Knows base A known) L

-- they have no text but those of the list, each with its number
abbrev pub KnowsOnly : (List ℕ → ℕ) → List EventValue → TextNumbers → Type 0
KnowsOnly base A known = (e : EventValue) (n : ℕ) → IsEvent e → value_at (text e) known ≡ Some n
    → (has key_cmp A e ≡ true) × (n ≡ number base A e)

-- where the list has the event, they have its text
abbrev pub KnowsIfThere : List EventValue → TextNumbers → EventValue → Type 0
KnowsIfThere A known e = has key_cmp A e ≡ true → HasText known e

-- numbers of texts that were those of the list alone are so still, with those that they had, and
-- with each of these events that the list has
pub record Learns (base : List ℕ → ℕ) (A L : List EventValue) (old new : TextNumbers) : Type 0 where
  pub only : KnowsOnly base A new
  pub stays : (t : List ℕ) → is_some (value_at t old) ≡ true → is_some (value_at t new) ≡ true
  pub each : AllByRecursion (KnowsIfThere A new) L

-- of each event that the first told of, when the list was A, the second tells, now that it is B
abbrev pub KeepsKnown : (List ℕ → ℕ) → List EventValue → List EventValue → TextNumbers → TextNumbers
    → Type 0
KeepsKnown base A B old new =
    (e : EventValue) → IsEvent e → Knows base A old e → Knows base B new e

-- ---- what is counted of a list

-- the numberer's counts are those of the list: each source has as many numbers behind its base as
-- events, each text of the list is one that the filter may have, and the texts that are known are
-- of the list, with their numbers
pub record IsCountOf (base : List ℕ → ℕ) (A : List EventValue) (c : Counts) : Type 0 where
  pub last : (source : List ℕ) → unwrap_or (value_at source c.last) c.base
      ≡ base source + length (of_source source A)
  pub seen : (e : EventValue) → has key_cmp A e ≡ true → MayHave c.seen (text e)
  pub recent : KnowsOnly base A c.recent

-- the numberer's counts are those of a list of distinct events without numbers, whose events with
-- their numbers are these
pub record IsCountOfRows (base : List ℕ → ℕ) (rows : List EventValue) (c : Counts) : Type 0 where
  pub events : List EventValue
  pub bare : AreBare events
  pub once : IsEachOnce events
  pub numbers : HaveNumbers (number base events) events rows
  pub whole : AllByRecursion IsEvent rows
  pub counts : IsCountOf base events c
