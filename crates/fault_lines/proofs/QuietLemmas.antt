-- Nothing is said exactly of what is events with numbers.
use Rattle.std.proofs.Common.{◌≡◌, ℕ, suc, List, [], ◌∷◌, map, Bool, true, false, ◌&&◌, Option, Some, None, refl, sym, ap, ◌∙◌, subst, inl, inr}
use Rattle.std.specs.Prelude.{is_some}
use Rattle.std.specs.List.{list_all}
use Rattle.std.specs.Option.{option_or}
use Rattle.serde_json.specs.Data.{Data}
use Rattle.attributes.specs.Event.{EventValue}
use Rattle.attributes.specs.Sequence.{number_of}
use Rattle.attributes.specs.declared.fault.Fault.{Fault}
use Rattle.event_json.specs.Spelling.{event_in, fault_in}
use Rattle.event_json.specs.Reading.{AreFaultless}
use Rattle.event_json.specs.Faulty.{FaultyMember, fault_unless, faulty, fault_of_numbered, number_fault, with_fault}
use Rattle.event_json.specs.declared.fault.ReadFault.{ReadFault}
use Rattle.fault_lines.specs.Lines.{IsFaultText, TellsMembers, whole_file_line, member_lines, string_text}
use Rattle.fault_lines.specs.Quiet.{HaveAllNumbers, IsGood}

-- ---- a member that isn't told

neither : (a b : Option Fault) → option_or a b ≡ None → (a ≡ None) × (b ≡ None)
neither None b h = (refl, h)
neither (Some f) b h = absurd (cc)

numbered : (e : EventValue) (o : Option ℕ) → fault_unless e o ≡ None → is_some o ≡ true
numbered e (Some n) h = refl
numbered e None h = absurd (cc)

unfaulted : (e : EventValue) (o : Option ℕ) → is_some o ≡ true → fault_unless e o ≡ None
unfaulted e (Some n) h = refl
unfaulted e None h = absurd (cc)

untold : (i : ℕ) (d : Data) (o : Option Fault) (rest : List FaultyMember) → with_fault i d o rest ≡ [] → (o ≡ None) × (rest ≡ [])
untold i d None rest h = (refl, h)
untold i d (Some f) rest h = absurd (cc)

-- ---- all members

faultless : (i : ℕ) (ds : List Data) → faulty i ds ≡ [] → AreFaultless ds
faultless i [] h = tt
faultless i (d ∷ ds) h =
    let here = untold i d (fault_of_numbered d) (faulty (suc i) ds) h in
    ((neither (fault_in d) (number_fault (event_in d)) here.0).0, faultless (suc i) ds here.1)

all_and : (b c : Bool) → b ≡ true → c ≡ true → (b && c) ≡ true
all_and b c h k = ap (λ x. x && c) h ∙ k

first_of : (b c : Bool) → (b && c) ≡ true → b ≡ true
first_of true c h = refl
first_of false c h = h

rest_of : (b c : Bool) → (b && c) ≡ true → c ≡ true
rest_of true c h = h
rest_of false c h = absurd (cc)

all_numbered : (i : ℕ) (ds : List Data) → faulty i ds ≡ [] → HaveAllNumbers (map event_in ds)
all_numbered i [] h = refl
all_numbered i (d ∷ ds) h =
    let here = untold i d (fault_of_numbered d) (faulty (suc i) ds) h in
    let e = event_in d in
    all_and (is_some (number_of e)) (list_all (λ e. is_some (number_of e)) (map event_in ds))
    (numbered e (number_of e) (neither (fault_in d) (number_fault e) here.0).1) (all_numbered (suc i) ds here.1)

none_told : (i : ℕ) (ds : List Data) → AreFaultless ds → HaveAllNumbers (map event_in ds) → faulty i ds ≡ []
none_told i [] h k = refl
none_told i (d ∷ ds) h k =
    let e = event_in d in
    let first = first_of (is_some (number_of e)) (list_all (λ e. is_some (number_of e)) (map event_in ds)) k in
    let rest = rest_of (is_some (number_of e)) (list_all (λ e. is_some (number_of e)) (map event_in ds)) k in
    let none : fault_of_numbered d ≡ None = ap (λ f. option_or f (number_fault e)) h.0 ∙ unfaulted e (number_of e) first in
    ap (λ o. with_fault i d o (faulty (suc i) ds)) none ∙ none_told (suc i) ds h.1 rest

-- ---- the text

none_said : (file : List ℕ) (told : List FaultyMember) → [] ≡ member_lines file told → told ≡ []
none_said file [] h = refl
none_said file (m ∷ told) h = absurd (cc)

of_members : (name b : List ℕ) → TellsMembers name b [] → IsGood b
of_members name b t =
    let told = t.0 in
    let none : faulty 0 t.1.found ≡ [] = sym t.1.are_faulty ∙ none_said (string_text name) told t.2 in (
      map event_in t.1.found,
      record {
        value = t.1.value;
        is_text = t.1.is_text;
        spells = record { found = t.1.found; are_found = t.1.are_found; faultless = faultless 0 t.1.found none; are_events = refl };
      },
      all_numbered 0 t.1.found none,
    )

some_said : (file : List ℕ) (why : ReadFault) → [] ≡ whole_file_line file why → ⊥
some_said file why h = cc

pub quiet : (name b : List ℕ) → IsFaultText name b [] → IsGood b
quiet name b (inl t) = of_members name b t
quiet name b (inr t) = absurd (some_said (string_text name) t.0 t.2)

pub good : (name b : List ℕ) → IsGood b → IsFaultText name b []
good name b g =
    let found = g.1.spells.found in
    let are : HaveAllNumbers (map event_in found) = subst HaveAllNumbers g.1.spells.are_events g.2 in
    inl (
      [],
      record {
        value = g.1.value;
        is_text = g.1.is_text;
        found = found;
        are_found = g.1.spells.are_found;
        are_faulty = sym (none_told 0 found g.1.spells.faultless are);
      },
      refl,
    )
