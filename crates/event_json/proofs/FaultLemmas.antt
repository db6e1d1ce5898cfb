-- No event's fault is want of memory.
use Rattle.std.proofs.Common.{◌≡◌, ℕ, List, [], ◌∷◌, Bool, true, false, cond, Option, Some, None, option_and_then, slice_get, nat_lt, length, ◌<◌, sym, refl, ◌∙◌, arith, subst}
use Rattle.std.specs.List.{AllByRecursion}
use Rattle.serde_json.specs.Data.{Data, null, boolean, number, string, array, object}
use Rattle.serde_json.specs.Read.{read}
use Rattle.serde_json.proofs.OnLiterals.{serde_json_on_literals}
use Rattle.attributes.specs.JsonText.{IsJsonText}
use Rattle.attributes.specs.Event.{OfferValue, event_of, text}
use Rattle.attributes.specs.Fault.{first_failed, member_tests, payload_tests, member_fault, payload_fault, max_text, fault}
use Rattle.std.specs.Option.{option_or}
use Rattle.attributes.specs.declared.content.Offered.{Offered}
use Rattle.attributes.specs.declared.scalar.Given.{Given}
use Rattle.attributes.specs.declared.fault.Fault.{Fault}
use Rattle.attributes.specs.declared.fault.Fault.TheVariants.{OutOfMemory, TooLarge}
use Rattle.event_json.specs.Spelling.{parts_in, fault_in}
use Rattle.event_json.specs.Reading.{IsNoSpelling}
use Rattle.event_json.specs.declared.fault.ReadFault.{ReadFault}
use Rattle.event_json.specs.declared.fault.ReadFault.TheVariants as refusal

abbrev pub IsMemory : Option Fault → Type 0
IsMemory o = o ≡ Some OutOfMemory

unfailed : (b : Bool) (f : Fault) (rest : Option Fault) → (f ≡ OutOfMemory → ⊥) → (IsMemory rest → ⊥) → IsMemory (cond b rest (Some f)) → ⊥
unfailed true f rest here later h = later h
unfailed false f rest here later h = here (cc)

first_failed-other : (ts : List (Bool × Fault)) → AllByRecursion (λ t. t.1 ≡ OutOfMemory → ⊥) ts → IsMemory (first_failed ts) → ⊥
first_failed-other [] others h = cc
first_failed-other (t ∷ ts) others h = unfailed t.0 t.1 (first_failed ts) others.0 (λ e. first_failed-other ts others.1 e) h

member_fault-other : (ms : List (List ℕ × Given)) → IsMemory (member_fault ms) → ⊥
member_fault-other ms h =
    first_failed-other (member_tests ms) (λ e. (cc), (λ e. (cc), (λ e. (cc), (λ e. (cc), (λ e. (cc), (λ e. (cc), (λ e. (cc), (λ e. (cc), (λ e. (cc), (λ e. (cc), tt)))))))))) h

payload_fault-other : (o : Offered) → IsMemory (payload_fault o) → ⊥
payload_fault-other o h = first_failed-other (payload_tests o) (λ e. (cc), (λ e. (cc), (λ e. (cc), (λ e. (cc), tt)))) h

pub either_other : (first next : Option Fault) → (IsMemory first → ⊥) → (IsMemory next → ⊥) → IsMemory (option_or first next) → ⊥
either_other None next other later h = later h
either_other (Some f) next other later h = other h

large_other : (large : Bool) → IsMemory (cond large (Some TooLarge) None) → ⊥
large_other true h = cc
large_other false h = cc

fault-other : (p : OfferValue) → IsMemory (fault p) → ⊥
fault-other p h =
    let large = nat_lt max_text (length (text (event_of p))) in
    either_other (member_fault p.members) (option_or (payload_fault p.offered) (cond large (Some TooLarge) None)) (member_fault-other p.members)
    (λ e. either_other (payload_fault p.offered) (cond large (Some TooLarge) None) (payload_fault-other p.offered) (large_other large) e) h

pub fault_in-other : (d : Data) → IsMemory (fault_in d) → ⊥
fault_in-other null h = cc
fault_in-other (boolean b) h = cc
fault_in-other (number n) h = cc
fault_in-other (string s) h = cc
fault_in-other (array ds) h = cc
fault_in-other (object ms) h = fault-other (parts_in ms) h

of_found : (o : Option Data) → IsMemory (option_and_then fault_in o) → ⊥
of_found None h = cc
of_found (Some d) h = fault_in-other d h

pub IsNoSpelling-memory : (value : Data) (i : ℕ) → IsNoSpelling value (refusal.BadEvent i OutOfMemory) → ⊥
IsNoSpelling-memory value i h = of_found (slice_get h.found i) h.at

-- a refusal, unless of memory, is no member's want of memory
pub unnamed : (value : Data) (f : ReadFault) (i : ℕ) → ((f ≡ refusal.OutOfMemory → ⊥) → IsNoSpelling value f) → f ≡ refusal.BadEvent i OutOfMemory → ⊥
unnamed value f i refused is =
    let other : f ≡ refusal.OutOfMemory → ⊥ = λ e. (cc) in
    IsNoSpelling-memory value i (subst (IsNoSpelling value) is (refused other))

-- ---- a JSON text has bytes

nothing_read : (d : Data) → read [] ≡ Some d → ⊥
unfolding serde_json_on_literals
nothing_read d h = let none : read [] ≡ None = refl in let no = sym none ∙ h in cc

pub has_bytes : (b : List ℕ) (d : Data) → IsJsonText b d → 0 < length b
has_bytes [] d h = absurd (nothing_read d h.1)
has_bytes (x ∷ b) d h = omega arith
