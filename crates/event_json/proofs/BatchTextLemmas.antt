-- The canonical text of a batch spells the events that it was written of.
use Rattle.std.proofs.Common.{◌≡◌, ◌≤◌, Bool, true, false, not, List, [], ◌∷◌, ◌++◌, map, length, Some, refl, sym, ap, ap₂, ◌∙◌, arith, append_assoc}
use Rattle.std.specs.List.{AllByRecursion}
use Rattle.serde_json.specs.Data.{Data, array, object, Items, no_items, item, members_depth, items_depth}
use Rattle.serde_json.specs.Read.{read}
use Rattle.serde_json.specs.Written.{compact_text, items_text}
use Rattle.attributes.specs.Event.{EventValue, members_of, text, event_of}
use Rattle.attributes.specs.Exact.{ItemsAreExact}
use Rattle.attributes.specs.Fault.{IsEvent, fault, parts_of}
use Rattle.event_json.specs.Spelling.{event_in, list_of}
use Rattle.event_json.specs.Reading.{AreFaultless, Reads, max_input}
use Rattle.event_json.specs.BatchText.{batch_text}
use Rattle.event_json.specs.steps.Joined.{joined}
use Rattle.event_json.proofs.PartsLemmas.{parts_in-members_of}
use Rattle.event_json.proofs.WriteLemmas.{batch_text-joined, utf8_batch_text}
use Rattle.event_json.proofs.Laws.{Laws}

-- the members of the array that a batch is
abbrev objects : List EventValue → Items
objects [] = no_items
objects (e ∷ es) = item (object (members_of e)) (objects es)

-- ---- the text is read as the array

items_text-objects : (first : Bool) (es : List EventValue) → items_text (not first) (objects es) ≡ joined first es ++ 93 ∷ []
items_text-objects first [] = refl
items_text-objects true (e ∷ es) = ap (λ r. text e ++ r) (items_text-objects false es) ∙ sym (append_assoc (text e) (joined false es) (93 ∷ []))
items_text-objects false (e ∷ es) = ap (λ r. 44 ∷ (text e ++ r)) (items_text-objects false es) ∙ ap (λ r. 44 ∷ r) (sym (append_assoc (text e) (joined false es) (93 ∷ [])))

shallow : Laws → (es : List EventValue) → AllByRecursion IsEvent es → items_depth (objects es) ≤ 121
shallow laws [] h = omega arith
shallow laws (e ∷ es) h =
    let event : members_depth (members_of e) ≤ 120 = laws.shallow e h.0 in
    let rest : items_depth (objects es) ≤ 121 = shallow laws es h.1 in
    omega arith

exact_objects : Laws → (es : List EventValue) → AllByRecursion IsEvent es → ItemsAreExact (objects es)
exact_objects laws [] h = tt
exact_objects laws (e ∷ es) h = (laws.exact e h.0, exact_objects laws es h.1)

pub read-batch_text : Laws → (es : List EventValue) → AllByRecursion IsEvent es → read (batch_text es) ≡ Some (array (objects es))
read-batch_text laws es h =
    let deep : items_depth (objects es) ≤ 121 = shallow laws es h in
    ap read (batch_text-joined es) ∙ ap (λ r. read (91 ∷ r)) (sym (items_text-objects true es)) ∙ laws.reads (array (objects es)) (exact_objects laws es h) (omega arith)

-- ---- the array spells the events

faultless_objects : Laws → (es : List EventValue) → AllByRecursion IsEvent es → AreFaultless (list_of (objects es))
faultless_objects laws [] h = tt
faultless_objects laws (e ∷ es) h = (ap fault (parts_in-members_of laws e h.0) ∙ h.0.faultless, faultless_objects laws es h.1)

-- an event is the event of its own parts
abbrev pub PartsMakeEvents : Type 0
PartsMakeEvents = (e : EventValue) → IsEvent e → event_of (parts_of e) ≡ e

events_of_objects : Laws → PartsMakeEvents → (es : List EventValue) → AllByRecursion IsEvent es → es ≡ map event_in (list_of (objects es))
events_of_objects laws again [] h = refl
events_of_objects laws again (e ∷ es) h =
    let event : e ≡ event_in (object (members_of e)) = sym (ap event_of (parts_in-members_of laws e h.0) ∙ again e h.0) in
    ap₂ (λ (x : EventValue) (xs : List EventValue). x ∷ xs) event (events_of_objects laws again es h.1)

pub Reads-batch_text : Laws → PartsMakeEvents → (es : List EventValue) → AllByRecursion IsEvent es → length (batch_text es) ≤ max_input → Reads (batch_text es) es
Reads-batch_text laws again es h fits =
    record {
      value = array (objects es);
      is_text = record { fits = fits; is_json = (utf8_batch_text es h, read-batch_text laws es h) };
      spells = record { found = list_of (objects es); are_found = refl; faultless = faultless_objects laws es h; are_events = events_of_objects laws again es h };
    }

-- ---- different lists have different texts

some_object : (d : Data) (ds : Items) → no_items ≡ item d ds → ⊥
some_object d ds h = cc

same_first : (c d : Data) (cs ds : Items) → item c cs ≡ item d ds → c ≡ d
same_first c d cs ds h = cc

same_rest : (c d : Data) (cs ds : Items) → item c cs ≡ item d ds → cs ≡ ds
same_rest c d cs ds h = cc

-- different events have different texts
abbrev pub TextTellsEvents : Type 0
TextTellsEvents = (e f : EventValue) → IsEvent e → IsEvent f → text e ≡ text f → e ≡ f

same_objects : TextTellsEvents → (l m : List EventValue) → AllByRecursion IsEvent l → AllByRecursion IsEvent m → objects l ≡ objects m → l ≡ m
same_objects tells [] [] p q h = refl
same_objects tells [] (f ∷ m) p q h = absurd (some_object (object (members_of f)) (objects m) h)
same_objects tells (e ∷ l) [] p q h = absurd (some_object (object (members_of e)) (objects l) (sym h))
same_objects tells (e ∷ l) (f ∷ m) p q h =
    let first : e ≡ f = tells e f p.0 q.0 (ap compact_text (same_first (object (members_of e)) (object (members_of f)) (objects l) (objects m) h)) in
    ap₂ (λ (x : EventValue) (xs : List EventValue). x ∷ xs) first (same_objects tells l m p.1 q.1 (same_rest (object (members_of e)) (object (members_of f)) (objects l) (objects m) h))

same_array : (cs ds : Items) → Some (array cs) ≡ Some (array ds) → cs ≡ ds
same_array cs ds h = cc

pub same_batch : Laws → TextTellsEvents → (l m : List EventValue) → AllByRecursion IsEvent l → AllByRecursion IsEvent m → batch_text l ≡ batch_text m → l ≡ m
same_batch laws tells l m p q h = same_objects tells l m p q (same_array (objects l) (objects m) (sym (read-batch_text laws l p) ∙ (ap read h ∙ read-batch_text laws m q)))
