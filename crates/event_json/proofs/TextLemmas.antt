-- The canonical text of an event spells it.
use Rattle.std.proofs.Common.{◌≡◌, ◌≤◌, inl, inr, ℕ, nat_lt, if◌then◌else◌, [], ◌∷◌, length, Option, Some, None, refl, sym, ap, subst, ◌∙◌, arith}
use Rattle.std.specs.Option.{option_or}
use Rattle.std.proofs.lemmas.Bool.{cases_Bool}
use Rattle.std.proofs.lemmas.Bool.Decides.{nat_tests}
use Rattle.serde_json.specs.Data.{object}
use Rattle.serde_json.specs.Read.{read}
use Rattle.attributes.specs.Event.{EventValue, event_of, members_of, text}
use Rattle.attributes.specs.Fault.{IsEvent, fault, max_text, member_fault, parts_of, payload_fault, size_fault}
use Rattle.attributes.specs.declared.fault.Fault.{Fault}
use Rattle.attributes.specs.declared.fault.Fault.TheVariants.{TooLarge}
use Rattle.event_json.specs.Spelling.{event_in}
use Rattle.event_json.specs.Reading.{Reads}
use Rattle.event_json.proofs.BatchTextLemmas.{PartsMakeEvents}
use Rattle.event_json.proofs.PartsLemmas.{parts_in-members_of}
use Rattle.event_json.proofs.Laws.{Laws}

none_last : (a b c : Option Fault) → option_or a (option_or b c) ≡ None → c ≡ None
none_last None None c h = h
none_last None (Some f) c h = absurd (cc)
none_last (Some f) b c h = absurd (cc)

not_large : (n m : ℕ) → (if nat_lt m n then Some TooLarge else None) ≡ None → n ≤ m
not_large n m h = elim (cases_Bool (nat_lt m n)) [
  | inl large ↦ absurd (let some = rw large at h in cc)
  | inr small ↦ grind (arith, nat_tests, small)
]

fits : PartsMakeEvents → (e : EventValue) → IsEvent e → length (text e) ≤ max_text
fits again e h =
    let small = not_large (length (text (event_of (parts_of e)))) max_text (none_last (member_fault (parts_of e).members) (payload_fault (parts_of e).offered) (size_fault (parts_of e)) h.faultless) in
    subst (λ (x : EventValue). length (text x) ≤ max_text) (again e h) small

pub Reads-text : Laws → PartsMakeEvents → ((e : EventValue) → IsEvent e → read (text e) ≡ Some (object (members_of e))) → (e : EventValue) → IsEvent e → Reads (text e) (e ∷ [])
Reads-text laws again reads e h =
    let small : length (text e) ≤ 262144 = fits again e h in
    let event : e ≡ event_in (object (members_of e)) = sym (ap event_of (parts_in-members_of laws e h) ∙ again e h) in
    record {
      value = object (members_of e);
      is_text = record { fits = omega (arith, small); is_json = (h.utf8, reads e h) };
      spells = record {
        found = object (members_of e) ∷ [];
        are_found = refl;
        faultless = (ap fault (parts_in-members_of laws e h) ∙ h.faultless, tt);
        are_events = ap (λ (x : EventValue). x ∷ []) event;
      };
    }
