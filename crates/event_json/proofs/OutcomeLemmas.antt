-- What the members of a batch come to, piece by piece.
use Rattle.std.proofs.Common.{◌≡◌, ℕ, suc, ◌+◌, ◌≤◌, List, [], ◌∷◌, ◌++◌, map, length, Option, Some, None, ◌<◌, Result, Ok, Err, IfOk, IfErr, IfSome, ◌≢◌, refl, sym, ap, ap₂, ◌∙◌, subst, arith, append_assoc, append-nil, take, slice_get, slice_range, true, false, if◌then◌else◌}
use Rattle.std.specs.Option.{option_or}
use Rattle.std.proofs.lemmas.List.{map-append, take_rest}
use Rattle.serde_json.specs.Data.{Data, array}
use Rattle.attributes.specs.Event.{EventValue}
use Rattle.attributes.specs.declared.fault.Fault.{Fault}
use Rattle.event_json.specs.Spelling.{fault_in, event_in, list_of}
use Rattle.event_json.specs.Reading.{AreFaultless, IsNoSpelling, Reads, Refuses, max_input}
use Rattle.event_json.specs.Parts.{HoldsSome, SpellsSome, PartsSpellBoth, WholesRead}
use Rattle.event_json.specs.steps.Pieces.{Gathers, GoesOn}
use Rattle.event_json.specs.steps.Walk.{bad, bad_or, first_bad}
use Rattle.event_json.specs.steps.Outcome.{IsReadingOutcome, ok_of, result_of, unless_refused}
use Rattle.event_json.specs.declared.fault.ReadFault.{ReadFault}
use Rattle.event_json.specs.declared.read.Outcome.{Outcome}
use Rattle.event_json.specs.declared.fault.ReadFault.TheVariants.{OutOfMemory, BadEvent}
use Rattle.attributes.specs.declared.fault.Fault.TheVariants as fault
use Rattle.event_json.proofs.FaultLemmas.{unnamed, has_bytes}
use Rattle.event_json.proofs.PieceLemmas.{join_held, cut_rest}
use Rattle.event_json.proofs.WalkLemmas.{faultless_all, is_bad, no_spelling}

-- ---- the first value with a fault

or_later : (n : ℕ) (o : Option Fault) (x y : Option ReadFault) → bad_or n o (option_or x y) ≡ option_or (bad_or n o x) y
or_later n None x y = refl
or_later n (Some f) x y = refl

-- the first bad one of all stands in the first piece that has one
pub first_bad-append : (n : ℕ) (ds es : List Data) → first_bad n (ds ++ es) ≡ option_or (first_bad n ds) (first_bad (n + length ds) es)
first_bad-append n [] es = let here : n ≡ n + 0 = omega arith in ap (λ k. first_bad k es) here
first_bad-append n (d ∷ ds) es =
    let on : suc n + length ds ≡ n + suc (length ds) = omega arith in
    ap (bad_or n (fault_in d)) (first_bad-append (suc n) ds es ∙ ap (λ k. option_or (first_bad (suc n) ds) (first_bad k es)) on)
    ∙ or_later n (fault_in d) (first_bad (suc n) ds) (first_bad (n + suc (length ds)) es)

length_events : (ds : List Data) → length (map event_in ds) ≡ length ds
length_events [] = refl
length_events (d ∷ ds) = ap suc (length_events ds)

-- ---- members more

-- the first bad one stays the first
pub stays_refused : (o n : Outcome) (f : ReadFault) (es : List Data) → o.refusal ≡ Some f → n.refusal ≡ Some f → GoesOn (IsReadingOutcome o) (IsReadingOutcome n) es
stays_refused o n f es is new ds h =
    let first : first_bad 0 ds ≡ Some f = sym h.0 ∙ is in (
      new ∙ sym (first_bad-append 0 ds es ∙ ap (λ x. option_or x (first_bad (0 + length ds) es)) first),
      λ none. absurd (let no = sym new ∙ none in cc),
    )

-- where none was bad, those that come are walked from where they stand
walked_on : (o : Outcome) (ds es : List Data) → o.refusal ≡ None → IsReadingOutcome o ds → first_bad 0 (ds ++ es) ≡ first_bad (length o.events) es
walked_on o ds es was h =
    let none : first_bad 0 ds ≡ None = sym h.0 ∙ was in
    let place : length o.events ≡ length ds = ap length (h.1 was) ∙ length_events ds in
    let here : 0 + length ds ≡ length o.events = omega (arith, place) in
    first_bad-append 0 ds es ∙ ap (λ x. option_or x (first_bad (0 + length ds) es)) none ∙ ap (λ k. first_bad k es) here

pub none_refused : (o n : Outcome) (es : List Data) → o.refusal ≡ None → n.refusal ≡ None → first_bad (length o.events) es ≡ None → n.events ≡ o.events ++ map event_in es → GoesOn (IsReadingOutcome o) (IsReadingOutcome n) es
none_refused o n es was is none are ds h = (
  is ∙ sym (walked_on o ds es was h ∙ none),
  λ _. are ∙ ap (λ x. x ++ map event_in es) (h.1 was) ∙ sym (map-append event_in ds es),
)

pub one_refused : (o n : Outcome) (f : ReadFault) (es : List Data) → o.refusal ≡ None → n.refusal ≡ Some f → first_bad (length o.events) es ≡ Some f → GoesOn (IsReadingOutcome o) (IsReadingOutcome n) es
one_refused o n f es was is bad_one ds h = (
  is ∙ sym (walked_on o ds es was h ∙ bad_one),
  λ none. absurd (let no = sym is ∙ none in cc),
)

-- ---- the whole

-- the outcome of a text's members
record Comes (b : List ℕ) (ds : List Data) (r : Option ReadFault) (es : List EventValue) : Type 0 where
  holds : HoldsSome b ds
  is : r ≡ first_bad 0 ds
  are : r ≡ None → es ≡ map event_in ds

spelled_ok : (b : List ℕ) (ds : List Data) (r : Option ReadFault) (es : List EventValue) → Comes b ds r es → IfSome (ok_of (unless_refused r es)) (λ l. SpellsSome b l)
spelled_ok b ds None es c = record { members = ds; holds = c.holds; faultless = faultless_all 0 ds (sym c.is); are_events = c.are refl }
spelled_ok b ds (Some f) es c = tt

pub reads_all : (b : List ℕ) (es : List EventValue) → SpellsSome b es → length b ≤ max_input → Reads b es
reads_all b es h fits =
    record {
      value = array h.holds.items;
      is_text = record { fits = fits; is_json = (h.holds.utf8, h.holds.reads) };
      spells = record { found = list_of h.holds.items; are_found = refl; faultless = subst AreFaultless h.holds.are h.faultless; are_events = h.are_events ∙ ap (map event_in) h.holds.are };
    }

read_ok : (b : List ℕ) (ds : List Data) (r : Option ReadFault) (es : List EventValue) → Comes b ds r es → length b ≤ max_input → IfOk (unless_refused r es) (λ l. Reads b l)
read_ok b ds None es c fits = reads_all b es (spelled_ok b ds None es c) fits
read_ok b ds (Some f) es c fits = tt

refused_first : (b : List ℕ) (ds : List Data) (f : ReadFault) → HoldsSome b ds → first_bad 0 ds ≡ Some f → length b ≤ max_input → Refuses b f
refused_first b ds f h is fits =
    let bad_one = is_bad 0 ds f is in
    subst (Refuses b) (sym bad_one.2) (
      array h.items,
      record { fits = fits; is_json = (h.utf8, h.reads) },
      subst (λ x. IsNoSpelling (array h.items) x) bad_one.2 (no_spelling (array h.items) (list_of h.items) f refl (ap (first_bad 0) (sym h.are) ∙ is)),
    )

read_refused : (b : List ℕ) (ds : List Data) (r : Option ReadFault) (es : List EventValue) → Comes b ds r es → length b ≤ max_input → IfErr (unless_refused r es) (λ f. f ≢ OutOfMemory → Refuses b f)
read_refused b ds None es c fits = tt
read_refused b ds (Some f) es c fits = λ _. refused_first b ds f c.holds (sym c.is) fits

read_named : (b : List ℕ) (ds : List Data) (r : Option ReadFault) (es : List EventValue) → Comes b ds r es → IfErr (unless_refused r es) (λ f. (i : ℕ) → f ≢ BadEvent i fault.OutOfMemory)
read_named b ds None es c = tt
read_named b ds (Some f) es c = λ i is. unnamed (array c.holds.items) f i (λ _. no_spelling (array c.holds.items) (list_of c.holds.items) f refl (ap (first_bad 0) (sym c.holds.are) ∙ sym c.is)) is

comes : (b : List ℕ) (o : Outcome) (g : Gathers b (IsReadingOutcome o)) → Comes b g.members o.refusal o.events
comes b o g = record { holds = g.holds; is = g.is.0; are = g.is.1 }

pub part_spells : (b : List ℕ) (o : Outcome) → Gathers b (IsReadingOutcome o) → IfSome (ok_of (result_of o)) (λ l. SpellsSome b l)
part_spells b o g = spelled_ok b g.members o.refusal o.events (comes b o g)

pub whole_reads : (b : List ℕ) (o : Outcome) → Gathers (b ++ []) (IsReadingOutcome o) → length b ≤ max_input → IfOk (result_of o) (λ l. Reads b l)
whole_reads b o h fits = let g = subst (λ x. Gathers x (IsReadingOutcome o)) (append-nil b) h in read_ok b g.members o.refusal o.events (comes b o g) fits

pub whole_refuses : (b : List ℕ) (o : Outcome) → Gathers (b ++ []) (IsReadingOutcome o) → length b ≤ max_input → IfErr (result_of o) (λ f. f ≢ OutOfMemory → Refuses b f)
whole_refuses b o h fits = let g = subst (λ x. Gathers x (IsReadingOutcome o)) (append-nil b) h in read_refused b g.members o.refusal o.events (comes b o g) fits

pub whole_names : (b : List ℕ) (o : Outcome) → Gathers (b ++ []) (IsReadingOutcome o) → IfErr (result_of o) (λ f. (i : ℕ) → f ≢ BadEvent i fault.OutOfMemory)
whole_names b o h = let g = subst (λ x. Gathers x (IsReadingOutcome o)) (append-nil b) h in read_named b g.members o.refusal o.events (comes b o g)

if_refused : {T E : Type 0} (P : E → Type 0) (Q : Type 0) (r : Result T E) → Q → IfErr r (λ e. P e → Q)
if_refused P Q (Ok t) q = tt
if_refused P Q (Err e) q = λ _. q

pub whole_has_bytes : (b : List ℕ) (o : Outcome) → Gathers (b ++ []) (IsReadingOutcome o) → IfErr (result_of o) (λ f. f ≡ OutOfMemory → 0 < length b)
whole_has_bytes b o h =
    let g = subst (λ x. Gathers x (IsReadingOutcome o)) (append-nil b) h in
    if_refused (λ f. f ≡ OutOfMemory) (0 < length b) (result_of o) (has_bytes b (array g.holds.items) (g.holds.utf8, g.holds.reads))

-- ---- parts that were read side by side

faultless_append : (xs ys : List Data) → AreFaultless xs → AreFaultless ys → AreFaultless (xs ++ ys)
faultless_append [] ys g h = h
faultless_append (d ∷ xs) ys g h = (g.0, faultless_append xs ys g.1 h)

two_texts : (o f t c : List ℕ) (l m : List EventValue) → SpellsSome (o ++ (f ++ 93 ∷ [])) l → SpellsSome (91 ∷ (t ++ c)) m → SpellsSome (o ++ ((f ++ 44 ∷ t) ++ c)) (l ++ m)
two_texts o f t c l m a b =
    let left = subst (λ x. HoldsSome x a.members) (sym (append_assoc o f (93 ∷ []))) a.holds in
    let whole = join_held (o ++ f) (t ++ c) a.members b.members left b.holds in
    record {
      members = a.members ++ b.members;
      holds = subst (λ x. HoldsSome x (a.members ++ b.members)) (append_assoc o f (44 ∷ (t ++ c)) ∙ ap (λ x. o ++ x) (sym (append_assoc f (44 ∷ t) c))) whole;
      faultless = faultless_append a.members b.members a.faultless b.faultless;
      are_events = ap₂ (λ (x y : List EventValue). x ++ y) a.are_events b.are_events ∙ sym (map-append event_in a.members b.members);
    }

pub parts_join : PartsSpellBoth
parts_join b opened closed i l m at a h =
    let o = if opened then [] else 91 ∷ [] in
    let c = if closed then [] else 93 ∷ [] in
    subst (λ x. SpellsSome (o ++ (x ++ c)) (l ++ m)) (ap (λ x. take i b ++ 44 ∷ x) (take_rest b (i + 1)) ∙ cut_rest b i at)
    (two_texts o (take i b) (slice_range b (i + 1) (length b)) c l m a h)

pub wholes_read : WholesRead
wholes_read b l h fits = reads_all b l (subst (λ x. SpellsSome x l) (append-nil b) h) fits
