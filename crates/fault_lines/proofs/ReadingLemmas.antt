-- Nothing is said exactly of what is events, with numbers or without.
use Rattle.std.proofs.Common.{◌≡◌, ℕ, suc, List, [], ◌∷◌, ◌++◌, codes, map, Bool, true, false, if◌then◌else◌, Option, Some, None, refl, sym, ap, ◌∙◌, subst, inl, inr}
use Rattle.std.specs.List.{AllByRecursion}
use Rattle.std.specs.Option.{option_or}
use Rattle.serde_json.specs.Data.{Data, null, boolean, number, string, array, object}
use Rattle.attributes.specs.Event.{EventValue, OfferValue, attribute_of}
use Rattle.attributes.specs.Fault.{fault, first_failed, member_fault, payload_fault, size_fault, member_tests, payload_tests}
use Rattle.attributes.specs.Sequence.{fault_at, number_of}
use Rattle.attributes.specs.declared.fault.Fault.{Fault}
use Rattle.attributes.specs.declared.fault.Fault.TheVariants.{TooLarge}
use Rattle.attributes.specs.declared.scalar.Scalar.{Scalar}
use Rattle.event_json.specs.Spelling.{candidates, event_in, fault_in, parts_in}
use Rattle.event_json.specs.Reading.{AreFaultless, IsTextOf, Reads, Refuses}
use Rattle.event_json.specs.Faulty.{FaultyMember, RefusesWhole, fault_unless, faulty, number_fault, with_fault}
use Rattle.event_json.specs.declared.fault.ReadFault.{ReadFault}
use Rattle.event_json.specs.declared.fault.ReadFault.TheVariants as read
use Rattle.fault_lines.specs.Lines.{IsReadingText, is_of_number, member_line, reading_line, reading_lines, string_text, whole_file_line}

some_is : {X : Type 0} (x y : X) → Some x ≡ Some y → x ≡ y
some_is x y h = cc

-- ---- no fault of reading is of a number

abbrev IsOther : Option Fault → Type 0
IsOther o = (f : Fault) → o ≡ Some f → is_of_number f ≡ false

told_other : (g : Fault) → is_of_number g ≡ false → IsOther (Some g)
told_other g h f e = ap is_of_number (sym (some_is g f e)) ∙ h

none_other : IsOther None
none_other f e = absurd (cc)

either_other : (a b : Option Fault) → IsOther a → IsOther b → IsOther (option_or a b)
either_other None b h k = k
either_other (Some g) b h k = h

test_other : (passed : Bool) (g : Fault) (o : Option Fault) → is_of_number g ≡ false → IsOther o → IsOther (if passed then o else Some g)
test_other true g o h k = k
test_other false g o h k = told_other g h

tests_other : (ts : List (Bool × Fault)) → AllByRecursion (λ t. is_of_number t.1 ≡ false) ts → IsOther (first_failed ts)
tests_other [] h = none_other
tests_other (t ∷ ts) h = test_other t.0 t.1 (first_failed ts) h.0 (tests_other ts h.1)

size_other : (large : Bool) → IsOther (if large then Some TooLarge else None)
size_other true = told_other TooLarge refl
size_other false = none_other

parts_other : (p : OfferValue) → IsOther (fault p)
parts_other p =
    either_other (member_fault p.members) (option_or (payload_fault p.offered) (size_fault p))
    (tests_other (member_tests p.members) (refl, (refl, (refl, (refl, (refl, (refl, (refl, (refl, (refl, (refl, tt)))))))))))
    (either_other (payload_fault p.offered) (size_fault p) (tests_other (payload_tests p.offered) (refl, (refl, (refl, (refl, tt))))) (size_other _))

reading_other : (d : Data) → IsOther (fault_in d)
reading_other null = told_other _ refl
reading_other (boolean b) = told_other _ refl
reading_other (number n) = told_other _ refl
reading_other (string s) = told_other _ refl
reading_other (array ds) = told_other _ refl
reading_other (object ms) = parts_other (parts_in ms)

-- ---- members of which nothing is said

some_said : (file : List ℕ) (m : FaultyMember) (rest : List ℕ) → [] ≡ member_line file m ++ rest → ⊥
some_said file m rest h = cc

empty_behind : (a b : List ℕ) → [] ≡ a ++ b → [] ≡ b
empty_behind [] b h = h
empty_behind (x ∷ a) b h = absurd (cc)

silent_member : (file : List ℕ) (i : ℕ) (d : Data) (o n : Option Fault) (rest : List FaultyMember) → IsOther o → [] ≡ reading_lines file (with_fault i d (option_or o n) rest) → (o ≡ None) × ([] ≡ reading_lines file rest)
silent_member file i d None None rest other h = (refl, h)
silent_member file i d None (Some g) rest other h = (refl, empty_behind (reading_line file (record { index = i; fault = g; tree = d })) (reading_lines file rest) h)
silent_member file i d (Some f) n rest other h =
    let m : FaultyMember = record { index = i; fault = f; tree = d } in
    absurd (some_said file m (reading_lines file rest) (h ∙ ap (λ b. (if b then [] else member_line file m) ++ reading_lines file rest) (other f refl)))

silent : (file : List ℕ) (i : ℕ) (ds : List Data) → [] ≡ reading_lines file (faulty i ds) → AreFaultless ds
silent file i [] h = tt
silent file i (d ∷ ds) h =
    let here = silent_member file i d (fault_in d) (number_fault (event_in d)) (faulty (suc i) ds) (reading_other d) h in
    (here.0, silent file (suc i) ds here.1)

of_number : (o : Option Scalar) → is_of_number (fault_at o) ≡ true
of_number None = refl
of_number (Some s) = refl

quiet_member : (file : List ℕ) (i : ℕ) (d : Data) (e : EventValue) (o : Option ℕ) (rest : List FaultyMember) → reading_lines file rest ≡ [] → reading_lines file (with_fault i d (fault_unless e o) rest) ≡ []
quiet_member file i d e (Some n) rest h = h
quiet_member file i d e None rest h =
    ap (λ b. (if b then [] else member_line file (record { index = i; fault = fault_at (attribute_of (codes "sequence") e); tree = d })) ++ reading_lines file rest) (of_number (attribute_of (codes "sequence") e)) ∙ h

quiet : (file : List ℕ) (i : ℕ) (ds : List Data) → AreFaultless ds → reading_lines file (faulty i ds) ≡ []
quiet file i [] h = refl
quiet file i (d ∷ ds) h =
    ap (λ f. reading_lines file (with_fault i d (option_or f (number_fault (event_in d))) (faulty (suc i) ds))) h.0
    ∙ quiet_member file i d (event_in d) (number_of (event_in d)) (faulty (suc i) ds) (quiet file (suc i) ds h.1)

-- ---- the text

whole_said : (file : List ℕ) (why : ReadFault) → [] ≡ whole_file_line file why → ⊥
whole_said file why h = cc

pub spelled : (name b text : List ℕ) → IsReadingText name b text → text ≡ [] → (events : List EventValue) × Reads b events
spelled name b text (inl t) none =
    let faultless = silent (string_text name) 0 t.1.found (sym none ∙ t.2 ∙ ap (reading_lines (string_text name)) t.1.are_faulty) in (
      map event_in t.1.found,
      record {
        value = t.1.value;
        is_text = t.1.is_text;
        spells = record { found = t.1.found; are_found = t.1.are_found; faultless = faultless; are_events = refl };
      },
    )
spelled name b text (inr t) none = absurd (whole_said (string_text name) t.0 (sym none ∙ t.2))

one_value : (b : List ℕ) (v w : Data) → IsTextOf b v → IsTextOf b w → v ≡ w
one_value b v w h k = some_is v w (sym h.is_json.1 ∙ k.is_json.1)

refused : (b : List ℕ) (why : ReadFault) → RefusesWhole b why → Refuses b why
refused b read.OutOfMemory h = h
refused b read.NotJson h = h
refused b read.NotEvent h = h
refused b (read.BadEvent i f) h = absurd h
refused b read.InputTooLarge h = h

pub unsaid : ((b : List ℕ) (l : List EventValue) (f : ReadFault) → Reads b l → Refuses b f → ⊥) → (name b text : List ℕ) → IsReadingText name b text → ((events : List EventValue) × Reads b events) → text ≡ []
unsaid apart name b text (inl t) g =
    let same = some_is g.1.spells.found t.1.found (sym g.1.spells.are_found ∙ ap candidates (one_value b g.1.value t.1.value g.1.is_text t.1.is_text) ∙ t.1.are_found) in
    t.2
    ∙ ap (reading_lines (string_text name)) t.1.are_faulty
    ∙ quiet (string_text name) 0 t.1.found (subst AreFaultless same g.1.spells.faultless)
unsaid apart name b text (inr t) g = absurd (apart b g.0 t.0 g.1 (refused b t.0 t.1))
