-- An attribute put to others.
use Rattle.std.proofs.Common.{◌≡◌, ◌≢◌, ℕ, List, [], ◌∷◌, Bool, true, false, cond, not, ◌&&◌, bytes_eq, codes, filter, if◌then◌else◌, Option, Some, None, option_and_then, refl, sym, subst, ap, ap₂, ◌∙◌, true≢false, is_eq}
use Rattle.std.specs.declared.cmp.Ordering.{Ordering}
use Rattle.std.specs.declared.cmp.Ordering.TheVariants.{Less, Equal, Greater}
use Rattle.std.specs.Ordering.{match_ordering}
use Rattle.std.specs.List.{list_all}
use Rattle.std.specs.Map.{keys_of}
use Rattle.std.specs.Option.{option_or}
use Rattle.std.proofs.lemmas.Map.Lookups.{exact_bytes}
use Rattle.std.proofs.lemmas.Map.Text.{is_eq-slice_cmp}
use Rattle.std.proofs.lemmas.Cmp.{nat_list_cmp_total, tied_itself}
use Rattle.std.specs.List.Sorted.{IsStrictlySortedBy}
use Rattle.serde_json.specs.Data.{Data, null, boolean, number, string, array, object}
use Rattle.std.specs.BTreeSet.{insert_key}
use Rattle.inbox.proofs.SetLemmas.{sorted-insert_key}
use Rattle.attributes.specs.Bytes.{byte_cmp}
use Rattle.attributes.specs.Character.{is_filled, is_name}
use Rattle.attributes.specs.Event.{EventValue, content_of, event_of, scalars_of, tree_content, words_of, words_or_empty}
use Rattle.attributes.specs.Fault.{IsCarried, IsEvent, first_failed, given_all, given_of, is_allowed, is_attribute, is_required, is_time, is_version, member_fault, offered_of, parts_of, payload_fault}
use Rattle.attributes.specs.Members.{AreNamesInOrder, value_at, with_value}
use Rattle.attributes.specs.Sequence.{sequence_of}
use Rattle.attributes.specs.declared.content.Content.{Content}
use Rattle.attributes.specs.declared.content.Content.TheVariants as content
use Rattle.attributes.specs.declared.fault.Fault.{Fault}
use Rattle.attributes.specs.declared.fault.Fault.TheVariants as its
use Rattle.attributes.specs.declared.scalar.Scalar.{Scalar}
use Rattle.attributes.specs.declared.scalar.Scalar.TheVariants as scalar
use Rattle.attributes.specs.declared.scalar.Given.{Given}
use Rattle.attributes.specs.declared.scalar.Given.TheVariants as given
use Rattle.attributes.proofs.FaultLemmas.{names_pass, no_member_fault, no_payload_fault, values_pass}
use Rattle.numbers.specs.Numbered.{NumberedEvents, NumberedParts, offer_with, with_sequence, without_sequence, HasNone}
use Rattle.numbers.proofs.DigitLemmas.{one_text, printable}

abbrev key : List ℕ
key = codes "sequence"

pub itself : (name : List ℕ) → bytes_eq name name ≡ true
itself name = sym (is_eq-slice_cmp name name) ∙ ap is_eq (tied_itself nat_list_cmp_total name)

pub tie_tells : (a b : List ℕ) (r : Ordering) → byte_cmp a b ≡ r → bytes_eq a b ≡ is_eq r
tie_tells a b r h = sym (is_eq-slice_cmp a b) ∙ ap is_eq h

module _ {X : Type 0} (name : List ℕ) (x : X) where
  pub at_name : (ms : List (List ℕ × X)) → value_at name (with_value name x ms) ≡ Some x
  at_name [] = ap (λ b. if b then Some x else None) (itself name)
  at_name (m ∷ ms) = by (byte_cmp name m.0) refl (at_name ms)
    where
      by : (r : Ordering) → byte_cmp name m.0 ≡ r → value_at name (with_value name x ms) ≡ Some x → value_at name (match_ordering r ((name, x) ∷ m ∷ ms) ((m.0, x) ∷ ms) (m ∷ with_value name x ms)) ≡ Some x
      by Less h f = ap (λ b. if b then Some x else value_at name (m ∷ ms)) (itself name)
      by Equal h f = ap (λ b. if b then Some x else value_at name ms) (tie_tells name m.0 Equal h)
      by Greater h f = ap (λ b. if b then Some m.1 else value_at name (with_value name x ms)) (tie_tells name m.0 Greater h) ∙ f

  pub elsewhere : (other : List ℕ) → bytes_eq other name ≡ false → (ms : List (List ℕ × X)) → value_at other (with_value name x ms) ≡ value_at other ms
  elsewhere other apart [] = ap (λ b. if b then Some x else None) apart
  elsewhere other apart (m ∷ ms) = by (byte_cmp name m.0) refl (elsewhere other apart ms)
    where
      by : (r : Ordering) → byte_cmp name m.0 ≡ r → value_at other (with_value name x ms) ≡ value_at other ms → value_at other (match_ordering r ((name, x) ∷ m ∷ ms) ((m.0, x) ∷ ms) (m ∷ with_value name x ms)) ≡ value_at other (m ∷ ms)
      by Less h f = ap (λ b. if b then Some x else value_at other (m ∷ ms)) apart
      by Equal h f =
          let no : bytes_eq other m.0 ≡ false = ap (bytes_eq other) (sym (exact_bytes name m.0 h)) ∙ apart in
          ap (λ b. if b then Some x else value_at other ms) no ∙ sym (ap (λ b. if b then Some m.1 else value_at other ms) no)
      by Greater h f = ap (λ o. if bytes_eq other m.0 then Some m.1 else o) f

  abbrev pub dropped : List (List ℕ × X) → List (List ℕ × X)
  dropped ms = filter (λ a. not (bytes_eq name a.0)) ms

  pub none_parts : (b : Bool) (y : X) (o : Option X) → (if b then Some y else o) ≡ None → (b ≡ false) × (o ≡ None)
  none_parts true y o h = absurd (cc)
  none_parts false y o h = (refl, h)

  pub kept_all : (ms : List (List ℕ × X)) → value_at name ms ≡ None → dropped ms ≡ ms
  kept_all [] h = refl
  kept_all (m ∷ ms) h =
      let p = none_parts (bytes_eq name m.0) m.1 (value_at name ms) h in
      ap (λ b. cond (not b) (m ∷ dropped ms) (dropped ms)) p.0 ∙ ap (λ l. m ∷ l) (kept_all ms p.1)

  pub dropped_again : (ms : List (List ℕ × X)) → value_at name ms ≡ None → dropped (with_value name x ms) ≡ ms
  dropped_again [] h = ap (λ b. cond (not b) ((name, x) ∷ []) []) (itself name)
  dropped_again (m ∷ ms) h = by (byte_cmp name m.0) refl (dropped_again ms) h (none_parts (bytes_eq name m.0) m.1 (value_at name ms) h)
    where
      by : (r : Ordering) → byte_cmp name m.0 ≡ r → (value_at name ms ≡ None → dropped (with_value name x ms) ≡ ms) → value_at name (m ∷ ms) ≡ None → (bytes_eq name m.0 ≡ false) × (value_at name ms ≡ None)
          → dropped (match_ordering r ((name, x) ∷ m ∷ ms) ((m.0, x) ∷ ms) (m ∷ with_value name x ms)) ≡ m ∷ ms
      by Less e f g p = ap (λ b. cond (not b) ((name, x) ∷ dropped (m ∷ ms)) (dropped (m ∷ ms))) (itself name) ∙ kept_all (m ∷ ms) g
      by Equal e f g p = absurd (true≢false (sym (tie_tells name m.0 Equal e) ∙ p.0))
      by Greater e f g p = ap (λ b. cond (not b) (m ∷ dropped (with_value name x ms)) (dropped (with_value name x ms))) p.0 ∙ ap (λ l. m ∷ l) (f p.1)

  pub all_with : (p : List ℕ × X → Bool) → p (name, x) ≡ true → (ms : List (List ℕ × X)) → list_all p ms ≡ true → list_all p (with_value name x ms) ≡ true
  all_with p own [] h = ap (λ b. b && true) own
  all_with p own (m ∷ ms) h = by (byte_cmp name m.0) refl (all_with p own ms) h
    where
      parts : (a b : Bool) → (a && b) ≡ true → (a ≡ true) × (b ≡ true)
      parts true true g = (refl, refl)
      parts true false g = absurd (true≢false (sym g))
      parts false b g = absurd (true≢false (sym g))

      by : (r : Ordering) → byte_cmp name m.0 ≡ r → (list_all p ms ≡ true → list_all p (with_value name x ms) ≡ true) → list_all p (m ∷ ms) ≡ true → list_all p (match_ordering r ((name, x) ∷ m ∷ ms) ((m.0, x) ∷ ms) (m ∷ with_value name x ms)) ≡ true
      by Less e f g = ap₂ (λ (a b : Bool). a && b) own g
      by Equal e f g = ap₂ (λ (a b : Bool). a && b) (ap (λ n. p (n, x)) (sym (exact_bytes name m.0 e)) ∙ own) (parts (p m) (list_all p ms) g).1
      by Greater e f g = let two = parts (p m) (list_all p ms) g in ap₂ (λ (a b : Bool). a && b) two.0 (f two.1)

some_words : (t u : List ℕ) → Some (scalar.Words t) ≡ Some (scalar.Words u) → t ≡ u
some_words t u h = ap (λ o. words_or_empty o) h

back : (e : EventValue) (t : List ℕ) → HasNone e → without_sequence (with_sequence t e) ≡ e
back e t h = ap (λ a. record e { attributes = a }) (dropped_again key (scalar.Words t) e.attributes h)

injective : (e f : EventValue) (t u : List ℕ) → HasNone e → HasNone f → with_sequence t e ≡ with_sequence u f → (e ≡ f) × (t ≡ u)
injective e f t u he hf same = (
  sym (back e t he) ∙ ap without_sequence same ∙ back f u hf,
  some_words t u (sym (at_name key (scalar.Words t) e.attributes) ∙ ap (λ (g : EventValue). value_at key g.attributes) same ∙ at_name key (scalar.Words u) f.attributes),
)

pub numbered_events : NumberedEvents
numbered_events = record {
  number = λ e t n h. ap (λ o. option_and_then sequence_of (words_of o)) (at_name key (scalar.Words t) e.attributes) ∙ h;
  others = λ e t name h. elsewhere key (scalar.Words t) name h e.attributes;
  source = λ e t. ap words_or_empty (elsewhere key (scalar.Words t) (codes "source") refl e.attributes);
  id = λ e t. ap words_or_empty (elsewhere key (scalar.Words t) (codes "id") refl e.attributes);
  back = back;
  injective = injective;
  one_text = one_text;
}

-- ---- parts

pub given_with : (name : List ℕ) (s : Scalar) (attributes : List (List ℕ × Scalar)) → with_value name (given_of s) (given_all attributes) ≡ given_all (with_value name s attributes)
given_with name s [] = refl
given_with name s (m ∷ ms) = by (byte_cmp name m.0) (given_with name s ms)
  where
    by : (r : Ordering) → with_value name (given_of s) (given_all ms) ≡ given_all (with_value name s ms)
        → match_ordering r ((name, given_of s) ∷ given_all (m ∷ ms)) ((m.0, given_of s) ∷ given_all ms) ((m.0, given_of m.1) ∷ with_value name (given_of s) (given_all ms)) ≡ given_all (match_ordering r ((name, s) ∷ m ∷ ms) ((m.0, s) ∷ ms) (m ∷ with_value name s ms))
    by Less f = refl
    by Equal f = refl
    by Greater f = ap (λ l. (m.0, given_of m.1) ∷ l) f

scalars_again : (attributes : List (List ℕ × Scalar)) → scalars_of (given_all attributes) ≡ attributes
scalars_again [] = refl
scalars_again ((name, scalar.Flag b) ∷ rest) = ap (λ (r : List (List ℕ × Scalar)). (name, scalar.Flag b) ∷ r) (scalars_again rest)
scalars_again ((name, scalar.Whole z) ∷ rest) = ap (λ (r : List (List ℕ × Scalar)). (name, scalar.Whole z) ∷ r) (scalars_again rest)
scalars_again ((name, scalar.Words t) ∷ rest) = ap (λ (r : List (List ℕ × Scalar)). (name, scalar.Words t) ∷ r) (scalars_again rest)

tree_again : (d : Data) → (d ≢ null) → tree_content d ≡ content.Tree d
tree_again null h = absurd (h refl)
tree_again (boolean b) h = refl
tree_again (number n) h = refl
tree_again (string s) h = refl
tree_again (array ds) h = refl
tree_again (object ms) h = refl

content_again : (c : Content) → IsCarried c → content_of (offered_of c) ≡ c
content_again content.Nothing h = refl
content_again (content.Tree d) h = tree_again d h.0
content_again (content.Bytes b) h = refl

pub built : (e : EventValue) (t : List ℕ) → IsEvent e → event_of (offer_with t (parts_of e)) ≡ with_sequence t e
built e t h =
    ap₂ (λ (a : List (List ℕ × Scalar)) (c : Content). let r : EventValue = record { attributes = a; content = c } in r)
    (ap scalars_of (given_with key (scalar.Words t) e.attributes) ∙ scalars_again (with_value key (scalar.Words t) e.attributes))
    (content_again e.content h.carried)

same_tests : (ms : List (List ℕ × Given)) (t : List ℕ) → is_attribute (given.Words t) ≡ true → member_fault ms ≡ None → member_fault (with_value key (given.Words t) ms) ≡ None
same_tests ms t own none =
    let at : (name : List ℕ) → bytes_eq name key ≡ false → value_at name (with_value key (given.Words t) ms) ≡ value_at name ms = λ name h. elsewhere key (given.Words t) name h ms in
    let names : list_all (λ m. is_name m.0) (with_value key (given.Words t) ms) ≡ list_all (λ m. is_name m.0) ms = all_with key (given.Words t) (λ m. is_name m.0) refl ms (names_pass ms none) ∙ sym (names_pass ms none) in
    let values : list_all (λ m. is_attribute m.1) (with_value key (given.Words t) ms) ≡ list_all (λ m. is_attribute m.1) ms = all_with key (given.Words t) (λ m. is_attribute m.1) own ms (values_pass ms none) ∙ sym (values_pass ms none) in
    ap first_failed (λ k.
    (is_required is_version (at (codes "specversion") refl k), its.SpecVersion)
    ∷ (is_required is_filled (at (codes "id") refl k), its.Id)
    ∷ (is_required is_filled (at (codes "source") refl k), its.Source)
    ∷ (is_required is_filled (at (codes "type") refl k), its.Kind)
    ∷ (is_allowed is_filled (at (codes "subject") refl k), its.Subject)
    ∷ (is_allowed is_time (at (codes "time") refl k), its.Time)
    ∷ (is_allowed is_filled (at (codes "datacontenttype") refl k), its.ContentType)
    ∷ (is_allowed is_filled (at (codes "dataschema") refl k), its.Schema)
    ∷ (names k, its.ExtensionName)
    ∷ (values k, its.ExtensionValue)
    ∷ [])
    ∙ none

pub faultless : (e : EventValue) (t : List ℕ) (n : ℕ) → IsEvent e → sequence_of t ≡ Some n → option_or (member_fault (offer_with t (parts_of e)).members) (payload_fault (offer_with t (parts_of e)).offered) ≡ None
faultless e t n h s =
    ap₂ (λ (a b : Option Fault). option_or a b)
    (same_tests (given_all e.attributes) t (printable t n s) (no_member_fault (parts_of e) h.faultless))
    (no_payload_fault (parts_of e) h.faultless)

keys_with : {X : Type 0} (name : List ℕ) (x : X) (ms : List (List ℕ × X)) → keys_of (with_value name x ms) ≡ insert_key byte_cmp (keys_of ms) name
keys_with name x [] = refl
keys_with {X} name x (m ∷ ms) = by (byte_cmp name m.0) (keys_with name x ms)
  where
    by : (r : Ordering) → keys_of (with_value name x ms) ≡ insert_key byte_cmp (keys_of ms) name
        → keys_of (match_ordering r ((name, x) ∷ m ∷ ms) ((m.0, x) ∷ ms) (m ∷ with_value name x ms)) ≡ match_ordering r (name ∷ m.0 ∷ keys_of ms) (m.0 ∷ keys_of ms) (m.0 ∷ insert_key byte_cmp (keys_of ms) name)
    by Less f = refl
    by Equal f = refl
    by Greater f = ap (λ l. m.0 ∷ l) f

pub in_order : (e : EventValue) (t : List ℕ) → IsEvent e → AreNamesInOrder (with_sequence t e).attributes
in_order e t h = subst (IsStrictlySortedBy byte_cmp) (sym (keys_with key (scalar.Words t) e.attributes)) (sorted-insert_key nat_list_cmp_total (keys_of e.attributes) key h.in_order)

pub numbered_parts : NumberedParts
numbered_parts = record { event = built; faultless = faultless; in_order = in_order }
