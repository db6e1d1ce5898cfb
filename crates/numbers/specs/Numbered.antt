-- An event with its number: the attribute `sequence` added to one that has none.
use Rattle.attributes.specs.declared.fault.Fault.TheVariants.{TooLarge}
use Rattle.std.specs.Prelude.{◌<◌, IsUtf8, ◌≡◌, ◌+◌, ◌≤◌, ℕ, List, [], ◌∷◌, ⊤, false, not, Some, None, bytes_eq, codes, filter, length}
use Rattle.std.specs.List.{AllByRecursion}
use Rattle.std.specs.Option.{option_or}
use Rattle.serde_json.specs.Data.{put, string}
use Rattle.attributes.specs.Event.{EventValue, OfferValue, attribute_of, event_of, id_of, members_of, source_of, text}
use Rattle.attributes.specs.Fault.{IsEvent, fault, max_text, member_fault, parts_of, payload_fault}
use Rattle.attributes.specs.Members.{AreNamesInOrder, with_value}
use Rattle.attributes.specs.Sequence.{number_of, sequence_of}
use Rattle.attributes.specs.declared.scalar.Scalar.TheVariants as scalar
use Rattle.attributes.specs.declared.scalar.Given.TheVariants as given

-- the event, given this text as its `sequence`
abbrev pub with_sequence : List ℕ → EventValue → EventValue
with_sequence t e = record e { attributes = with_value (codes "sequence") (scalar.Words t) e.attributes }

-- the event's parts, given this text as their `sequence`, as `Parts::set` puts it in
abbrev pub offer_with : List ℕ → OfferValue → OfferValue
offer_with t p = record p { members = with_value (codes "sequence") (given.Words t) p.members }

-- the event to be numbered has no attribute `sequence`
abbrev pub HasNone : EventValue → Type 0
HasNone e = attribute_of (codes "sequence") e ≡ None

-- the numbered event without its `sequence`
abbrev pub without_sequence : EventValue → EventValue
without_sequence e = record e { attributes = filter (λ a. not (bytes_eq (codes "sequence") a.0)) e.attributes }

-- an event that can be numbered: it has no number, and room for one
pub record IsBare (e : EventValue) : Type 0 where
  pub event : IsEvent e
  pub none : HasNone e
  pub fits : length (text e) + 34 ≤ max_text

-- each of the events can be numbered: it has no number, and room for one
abbrev pub AreBare : List EventValue → Type 0
AreBare es = AllByRecursion IsBare es

-- x is the event e given the number n, as twenty digits
pub record HasNumber (n : ℕ) (e x : EventValue) : Type 0 where
  pub digits : List ℕ
  pub number : sequence_of digits ≡ Some n
  pub is : x ≡ with_sequence digits e

-- x isn't the event e given another number than n
abbrev pub HasNoOther : ℕ → EventValue → EventValue → Type 0
HasNoOther n e x = (m : ℕ) → HasNumber m e x → m ≡ n

-- each event of the second list is that of the first given its number
abbrev pub HaveNumbers : (EventValue → ℕ) → List EventValue → List EventValue → Type 0
HaveNumbers n [] [] = ⊤
HaveNumbers n (e ∷ es) (x ∷ xs) = HasNumber (n e) e x × HaveNumbers n es xs
HaveNumbers n _ _ = ⊥

-- each event of the second list is that of the first given some number
abbrev pub AreEachNumbered : List EventValue → List EventValue → Type 0
AreEachNumbered [] [] = ⊤
AreEachNumbered (e ∷ es) (x ∷ xs) = ((n : ℕ) × HasNumber n e x) × AreEachNumbered es xs
AreEachNumbered _ _ = ⊥

-- what an event given its number is: that number, and all else as it was
pub record NumberedEvents : Type 0 where
  pub number : (e : EventValue) (t : List ℕ) (n : ℕ) → sequence_of t ≡ Some n
      → number_of (with_sequence t e) ≡ Some n
  pub others : (e : EventValue) (t name : List ℕ) → bytes_eq name (codes "sequence") ≡ false
      → attribute_of name (with_sequence t e) ≡ attribute_of name e
  pub source : (e : EventValue) (t : List ℕ) → source_of (with_sequence t e) ≡ source_of e
  pub id : (e : EventValue) (t : List ℕ) → id_of (with_sequence t e) ≡ id_of e
  -- what was given is what is left without it, so no two events become one
  pub back : (e : EventValue) (t : List ℕ) → HasNone e → without_sequence (with_sequence t e) ≡ e
  pub injective : (e f : EventValue) (t u : List ℕ) → HasNone e → HasNone f
      → with_sequence t e ≡ with_sequence u f → (e ≡ f) × (t ≡ u)
  -- a number has one text
  pub one_text : (t u : List ℕ) (n : ℕ) → sequence_of t ≡ Some n → sequence_of u ≡ Some n → t ≡ u

-- building an event's parts with the given number: the event with it, unless it is too large
pub record NumberedParts : Type 0 where
  pub event : (e : EventValue) (t : List ℕ) → IsEvent e
      → event_of (offer_with t (parts_of e)) ≡ with_sequence t e
  pub faultless : (e : EventValue) (t : List ℕ) (n : ℕ) → IsEvent e → sequence_of t ≡ Some n
      → option_or (member_fault (offer_with t (parts_of e)).members)
      (payload_fault (offer_with t (parts_of e)).offered) ≡ None
  pub in_order : (e : EventValue) (t : List ℕ) → IsEvent e → AreNamesInOrder (with_sequence t e).attributes

-- a text given its number is 34 bytes longer: ,"sequence":"00000000000000000001"
abbrev pub IsLonger : Type 0
IsLonger = (e : EventValue) (t : List ℕ) (n : ℕ) → IsEvent e → HasNone e → sequence_of t ≡ Some n
    → length (text (with_sequence t e)) ≡ length (text e) + 34

-- 262,110 bytes may be numbered, and no more. That the new text is UTF-8 is what `Event::text` says
-- of each event that was built
pub record NumberedFits : Type 0 where
  pub fits : (e : EventValue) (t : List ℕ) (n : ℕ) → IsEvent e → HasNone e → sequence_of t ≡ Some n
      → length (text e) + 34 ≤ max_text → fault (offer_with t (parts_of e)) ≡ None
  pub too_large : (e : EventValue) (t : List ℕ) (n : ℕ) → IsEvent e → HasNone e
      → sequence_of t ≡ Some n → max_text < length (text e) + 34
      → fault (offer_with t (parts_of e)) ≡ Some TooLarge
  pub event : (e : EventValue) (t : List ℕ) (n : ℕ) → IsEvent e → HasNone e → sequence_of t ≡ Some n
      → length (text e) + 34 ≤ max_text → IsUtf8 (text (with_sequence t e))
      → IsEvent (with_sequence t e)

-- the JSON object of an event given its number is that of the event with one member put to it
abbrev pub NumberedMembers : Type 0
NumberedMembers = (e : EventValue) (t : List ℕ) → IsEvent e
    → members_of (with_sequence t e) ≡ put (codes "sequence") (string t) (members_of e)
