-- What an event's own parts tell: its required attributes, and the event again.
use Rattle.std.proofs.Common.{◌≡◌, ◌≢◌, ◌∙◌, ℕ, true, false, List, [], ◌∷◌, Option, Some, None, refl, ap, ap₂, sym}
use Rattle.std.specs.Prelude.{if◌then◌else◌, bytes_eq, codes, option_map}
use Rattle.std.specs.List.{AllByRecursion, list_all}
use Rattle.serde_json.specs.Data.{Data, null, boolean, number, string, array, object}
use Rattle.attributes.specs.Character.{is_filled, is_name}
use Rattle.attributes.specs.Members.{value_at}
use Rattle.attributes.specs.Event.{EventValue, content_of, event_of, id_of, kind_of, members_of, scalars_of, source_of, tree_content, with_content, words_or_empty, direct}
use Rattle.attributes.specs.Fault.{IsCarried, IsEvent, given_all, given_of, is_attribute, is_required, member_tests, offered_of, parts_of}
use Rattle.attributes.specs.declared.scalar.Scalar.{Scalar}
use Rattle.attributes.specs.declared.scalar.Scalar.TheVariants as scalar
use Rattle.attributes.specs.declared.content.Content.{Content}
use Rattle.attributes.specs.declared.content.Content.TheVariants as content
use Rattle.attributes.proofs.ObjectLemmas.{with_all-direct}
use Rattle.attributes.proofs.BoolLemmas.{and_parts}
use Rattle.attributes.proofs.FaultLemmas.{first_failed-None, names_pass, no_member_fault, values_pass}

-- ---- required attributes are filled

given_at : (name : List ℕ) (attributes : List (List ℕ × Scalar)) → value_at name (given_all attributes) ≡ option_map given_of (value_at name attributes)
given_at name [] = refl
given_at name (a ∷ rest) =
    elim (bytes_eq name a.0) as (λ b. (if b then Some (given_of a.1) else value_at name (given_all rest)) ≡ option_map given_of (if b then Some a.1 else value_at name rest)) [
      | true ↦ refl
      | false ↦ given_at name rest
    ]

filled_words : (o : Option Scalar) → is_required is_filled (option_map given_of o) ≡ true → is_filled (words_or_empty o) ≡ true
filled_words None h = h
filled_words (Some (scalar.Flag b)) h = h
filled_words (Some (scalar.Whole z)) h = h
filled_words (Some (scalar.Words t)) h = h

filled_at : (name : List ℕ) (e : EventValue) → is_required is_filled (value_at name (given_all e.attributes)) ≡ true → is_filled (words_or_empty (value_at name e.attributes)) ≡ true
filled_at name e h = filled_words (value_at name e.attributes) (sym (ap (is_required is_filled) (given_at name e.attributes)) ∙ h)

tests_pass : (e : EventValue) → IsEvent e → AllByRecursion (λ t. t.0 ≡ true) (member_tests (given_all e.attributes))
tests_pass e h = first_failed-None (member_tests (given_all e.attributes)) (no_member_fault (parts_of e) h.faultless)

pub id_filled : (e : EventValue) → IsEvent e → is_filled (id_of e) ≡ true
id_filled e h = filled_at (codes "id") e (tests_pass e h).1.0

pub source_filled : (e : EventValue) → IsEvent e → is_filled (source_of e) ≡ true
source_filled e h = filled_at (codes "source") e (tests_pass e h).1.1.0

pub kind_filled : (e : EventValue) → IsEvent e → is_filled (kind_of e) ≡ true
kind_filled e h = filled_at (codes "type") e (tests_pass e h).1.1.1.0

-- ---- names and values are allowed

each_name : (attributes : List (List ℕ × Scalar)) → list_all (λ m. is_name m.0) (given_all attributes) ≡ true → AllByRecursion (λ a. is_name a.0 ≡ true) attributes
each_name [] h = tt
each_name (a ∷ rest) h = let both = and_parts (is_name a.0) (list_all (λ m. is_name m.0) (given_all rest)) h in (both.0, each_name rest both.1)

each_value : (attributes : List (List ℕ × Scalar)) → list_all (λ m. is_attribute m.1) (given_all attributes) ≡ true → AllByRecursion (λ a. is_attribute (given_of a.1) ≡ true) attributes
each_value [] h = tt
each_value (a ∷ rest) h = let both = and_parts (is_attribute (given_of a.1)) (list_all (λ m. is_attribute m.1) (given_all rest)) h in (both.0, each_value rest both.1)

pub names_allowed : (e : EventValue) → IsEvent e → AllByRecursion (λ a. is_name a.0 ≡ true) e.attributes
names_allowed e h = each_name e.attributes (names_pass (given_all e.attributes) (no_member_fault (parts_of e) h.faultless))

pub values_allowed : (e : EventValue) → IsEvent e → AllByRecursion (λ a. is_attribute (given_of a.1) ≡ true) e.attributes
values_allowed e h = each_value e.attributes (values_pass (given_all e.attributes) (no_member_fault (parts_of e) h.faultless))

pub members_direct : (e : EventValue) → IsEvent e → members_of e ≡ with_content e.content (direct e.attributes)
members_direct e h = ap (with_content e.content) (with_all-direct e.attributes h.in_order)

-- ---- the parts make the event

scalars_again : (attributes : List (List ℕ × Scalar)) → scalars_of (given_all attributes) ≡ attributes
scalars_again [] = refl
scalars_again ((name, scalar.Flag b) ∷ rest) = ap (λ (r : List (List ℕ × Scalar)). (name, scalar.Flag b) ∷ r) (scalars_again rest)
scalars_again ((name, scalar.Whole z) ∷ rest) = ap (λ (r : List (List ℕ × Scalar)). (name, scalar.Whole z) ∷ r) (scalars_again rest)
scalars_again ((name, scalar.Words t) ∷ rest) = ap (λ (r : List (List ℕ × Scalar)). (name, scalar.Words t) ∷ r) (scalars_again rest)

tree_again : (d : Data) → (d ≢ null) → tree_content d ≡ content.Tree d
tree_again null h = absurd (h refl)
tree_again (boolean b) h = refl
tree_again (number n) h = refl
tree_again (string s) h = refl
tree_again (array ds) h = refl
tree_again (object ms) h = refl

pub offered_again : (c : Content) → IsCarried c → content_of (offered_of c) ≡ c
offered_again content.Nothing h = refl
offered_again (content.Tree d) h = tree_again d h.0
offered_again (content.Bytes b) h = refl

pub event_again : (e : EventValue) → IsEvent e → event_of (parts_of e) ≡ e
event_again e h = ap₂ (λ a c. record { attributes = a; content = c }) (scalars_again e.attributes) (offered_again e.content h.carried)
