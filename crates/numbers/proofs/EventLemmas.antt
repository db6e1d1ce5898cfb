-- When an event with its number is an event.
use Rattle.std.proofs.Common.{◌≡◌, ◌≤◌, ◌<◌, ◌+◌, ℕ, List, true, false, codes, length, nat_lt, if◌then◌else◌, Option, Some, None, refl, sym, ap, ◌∙◌, arith, IsUtf8}
use Rattle.std.specs.Option.{option_or}
use Rattle.std.proofs.lemmas.Bool.Decides.{nat_tests}
use Rattle.attributes.specs.Event.{EventValue, event_of, text}
use Rattle.attributes.specs.Fault.{IsEvent, fault, max_text, member_fault, parts_of, payload_fault, size_fault}
use Rattle.attributes.specs.Sequence.{sequence_of}
use Rattle.attributes.specs.declared.fault.Fault.{Fault}
use Rattle.attributes.specs.declared.fault.Fault.TheVariants.{TooLarge}
use Rattle.attributes.specs.declared.scalar.Scalar.TheVariants as scalar
use Rattle.numbers.specs.Numbered.{HasNone, NumberedFits, offer_with, with_sequence}
use Rattle.numbers.proofs.LengthLemmas.{longer}
use Rattle.numbers.proofs.NumberedLemmas.{built, faultless, given_with, in_order}

none_first : (o rest : Option Fault) → option_or o rest ≡ None → o ≡ None
none_first None rest h = refl
none_first (Some f) rest h = h

none_next : (o rest : Option Fault) → option_or o rest ≡ None → rest ≡ None
none_next None rest h = h
none_next (Some f) rest h = cc

all_three : (a b c : Option Fault) → option_or a b ≡ None → option_or a (option_or b c) ≡ c
all_three None None c h = refl
all_three None (Some f) c h = cc
all_three (Some f) b c h = cc

-- the one fault that may be left is the size
left : (e : EventValue) (t : List ℕ) (n : ℕ) → IsEvent e → sequence_of t ≡ Some n → fault (offer_with t (parts_of e)) ≡ size_fault (offer_with t (parts_of e))
left e t n h s =
    let p = offer_with t (parts_of e) in
    all_three (member_fault p.members) (payload_fault p.offered) (size_fault p) (faultless e t n h s)

sized : (e : EventValue) (t : List ℕ) (n : ℕ) → IsEvent e → HasNone e → sequence_of t ≡ Some n → length (text (event_of (offer_with t (parts_of e)))) ≡ length (text e) + 34
sized e t n h none s = ap (λ f. length (text f)) (built e t h) ∙ longer e t n h none s

too_large : (e : EventValue) (t : List ℕ) (n : ℕ) → IsEvent e → HasNone e → sequence_of t ≡ Some n → max_text < length (text e) + 34 → fault (offer_with t (parts_of e)) ≡ Some TooLarge
too_large e t n h none s long =
    let size = sized e t n h none s in
    let over : nat_lt max_text (length (text (event_of (offer_with t (parts_of e))))) ≡ true = ap (nat_lt max_text) size ∙ yes_lt (length (text e) + 34) long in
    left e t n h s ∙ ap (λ b. if b then Some TooLarge else None) over
  where
    yes_lt : (m : ℕ) → max_text < m → nat_lt max_text m ≡ true
    yes_lt m l = grind (arith, nat_tests)

fits : (e : EventValue) (t : List ℕ) (n : ℕ) → IsEvent e → HasNone e → sequence_of t ≡ Some n → length (text e) + 34 ≤ max_text → fault (offer_with t (parts_of e)) ≡ None
fits e t n h none s short =
    let size = sized e t n h none s in
    let under : nat_lt max_text (length (text (event_of (offer_with t (parts_of e))))) ≡ false = ap (nat_lt max_text) size ∙ no_lt (length (text e) + 34) short in
    left e t n h s ∙ ap (λ b. if b then Some TooLarge else None) under
  where
    no_lt : (m : ℕ) → m ≤ max_text → nat_lt max_text m ≡ false
    no_lt m l = grind (arith, nat_tests)

-- the parts with it are those of the event with it
same_parts : (e : EventValue) (t : List ℕ) → offer_with t (parts_of e) ≡ parts_of (with_sequence t e)
same_parts e t = ap (λ m. record (parts_of e) { members = m }) (given_with (codes "sequence") (scalar.Words t) e.attributes)

event : (e : EventValue) (t : List ℕ) (n : ℕ) → IsEvent e → HasNone e → sequence_of t ≡ Some n → length (text e) + 34 ≤ max_text → IsUtf8 (text (with_sequence t e)) → IsEvent (with_sequence t e)
event e t n h none s short utf8 = record {
  faultless = ap fault (sym (same_parts e t)) ∙ fits e t n h none s short;
  in_order = in_order e t h;
  carried = h.carried;
  utf8 = utf8;
}

pub numbered_fits : NumberedFits
numbered_fits = record { fits = fits; too_large = too_large; event = event }
