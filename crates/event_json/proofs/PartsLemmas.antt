-- An event's object spells the parts that the event is made of.
use Rattle.std.proofs.Common.{◌≡◌, ◌≢◌, ◌^◌, ℕ, pos, negsuc, Bool, true, false, cond, List, [], ◌∷◌, Some, None, nat_lt, bytes_eq, is_eq, Ordering, Less, Equal, Greater, refl, sym, ap, ap₂, ◌∙◌, arith, ltb-true, lt-ltb}
use Rattle.std.specs.List.{AllByRecursion}
use Rattle.std.specs.Ordering.{match_ordering}
use Rattle.base64.specs.Engines.{standard}
use Rattle.base64.specs.GeneralPurpose.{encode_of}
use Rattle.base64.proofs.EngineFacts.{decode_of-encode_of}
use Rattle.serde_json.specs.Data.{Data, null, boolean, number, string, array, object, Members, no_members, member, put}
use Rattle.serde_json.specs.Find.{get_member}
use Rattle.serde_json.proofs.Views.{get_member-put, get_member-put_other}
use Rattle.attributes.specs.Bytes.{byte_cmp}
use Rattle.attributes.specs.Character.{is_name}
use Rattle.attributes.specs.Event.{EventValue, json_of, with_content, members_of, direct}
use Rattle.attributes.specs.Fault.{IsEvent, IsCarried, is_attribute, given_of, given_all, offered_of, parts_of}
use Rattle.attributes.specs.declared.scalar.Scalar.{Scalar}
use Rattle.attributes.specs.declared.scalar.Scalar.TheVariants as scalar
use Rattle.attributes.specs.declared.content.Content.{Content}
use Rattle.attributes.specs.declared.content.Content.TheVariants as content
use Rattle.event_json.specs.Payload.{tree_name, bytes_name, is_payload, attribute_members, unless_null, decoded, payload, offered_in}
use Rattle.event_json.specs.Spelling.{given_in, with_given, spelled, parts_in}
use Rattle.event_json.proofs.PayloadNameLemmas.{same_name, tree_is_payload, bytes_is_payload, is_payload-same, is_payload-neither, not_tree, not_bytes, is_eq-names, choice_at_other}
use Rattle.event_json.proofs.Laws.{Laws}
use Rattle.event_json.proofs.PayloadLemmas.{offer}

-- ---- attributes

wide : (n : ℕ) → nat_lt n 2147483648 ≡ true → nat_lt n (2 ^ 63) ≡ true
wide n h = lt-ltb n (2 ^ 63) (omega (arith, ltb-true n 2147483648 h))

given_in-json_of : (s : Scalar) → is_attribute (given_of s) ≡ true → given_in (json_of s) ≡ Some (given_of s)
given_in-json_of (scalar.Flag b) h = refl
given_in-json_of (scalar.Whole (pos n)) h = rw (wide n h, h)
given_in-json_of (scalar.Whole (negsuc n)) h = rw h
given_in-json_of (scalar.Words t) h = refl

spelled-direct : (attributes : List (List ℕ × Scalar)) → AllByRecursion (λ a. is_attribute (given_of a.1) ≡ true) attributes → spelled (direct attributes) ≡ given_all attributes
spelled-direct [] h = refl
spelled-direct (a ∷ rest) h = ap₂ (with_given a.0) (given_in-json_of a.1 h.0) (spelled-direct rest h.1)

-- ---- no attribute has the name of a payload member

plain_by : (a b : Bool) (n : List ℕ) → bytes_eq tree_name n ≡ a → bytes_eq bytes_name n ≡ b → is_name n ≡ true → is_payload n ≡ false
plain_by true b n t u h = let clash : is_name tree_name ≡ true = ap is_name (same_name tree_name n t) ∙ h in cc clash
plain_by false true n t u h = let clash : is_name bytes_name ≡ true = ap is_name (same_name bytes_name n u) ∙ h in cc clash
plain_by false false n t u h = is_payload-neither n t u

abbrev ArePlain : List (List ℕ × Scalar) → Type 0
ArePlain attributes = AllByRecursion (λ a. is_payload a.0 ≡ false) attributes

plain_all : (attributes : List (List ℕ × Scalar)) → AllByRecursion (λ a. is_name a.0 ≡ true) attributes → ArePlain attributes
plain_all [] h = tt
plain_all (a ∷ rest) h = (plain_by (bytes_eq tree_name a.0) (bytes_eq bytes_name a.0) a.0 refl refl h.0, plain_all rest h.1)

attribute_members-direct : (attributes : List (List ℕ × Scalar)) → ArePlain attributes → attribute_members (direct attributes) ≡ direct attributes
attribute_members-direct [] h = refl
attribute_members-direct (a ∷ rest) h =
    let members = attribute_members (direct rest) in
    ap (λ b. cond b members (member a.0 (json_of a.1) members)) h.0 ∙ ap (λ ms. member a.0 (json_of a.1) ms) (attribute_members-direct rest h.1)

get_member-other : (name k : List ℕ) (d : Data) (ms : Members) → bytes_eq name k ≡ false → get_member name (member k d ms) ≡ get_member name ms
get_member-other name k d ms h = choice_at_other (byte_cmp name k) (get_member name ms) (Some d) (is_eq-names name k ∙ h)

no_tree : (attributes : List (List ℕ × Scalar)) → ArePlain attributes → get_member tree_name (direct attributes) ≡ None
no_tree [] h = refl
no_tree (a ∷ rest) h = get_member-other tree_name a.0 (json_of a.1) (direct rest) (not_tree a.0 h.0) ∙ no_tree rest h.1

no_bytes : (attributes : List (List ℕ × Scalar)) → ArePlain attributes → get_member bytes_name (direct attributes) ≡ None
no_bytes [] h = refl
no_bytes (a ∷ rest) h = get_member-other bytes_name a.0 (json_of a.1) (direct rest) (not_bytes a.0 h.0) ∙ no_bytes rest h.1

-- ---- a payload member that is put is no attribute

put_next : (o : Ordering) (k l : List ℕ) (d e : Data) (ms : Members) → byte_cmp k l ≡ o → is_payload k ≡ true → attribute_members (put k d ms) ≡ attribute_members ms
    → attribute_members (match_ordering o (member k d (member l e ms)) (member l d ms) (member l e (put k d ms))) ≡ attribute_members (member l e ms)
put_next Less k l d e ms is h rest = let members = attribute_members (member l e ms) in ap (λ b. cond b members (member k d members)) h
put_next Equal k l d e ms is h rest =
    let members = attribute_members ms in
    let one : is_payload l ≡ true = is_payload-same k l h (sym (is_eq-names k l) ∙ ap is_eq is) in
    ap (λ b. cond b members (member l d members)) one ∙ sym (ap (λ b. cond b members (member l e members)) one)
put_next Greater k l d e ms is h rest = ap (λ members. cond (is_payload l) members (member l e members)) rest

attribute_members-put : (k : List ℕ) (d : Data) (ms : Members) → is_payload k ≡ true → attribute_members (put k d ms) ≡ attribute_members ms
attribute_members-put k d no_members h = ap (λ b. cond b no_members (member k d no_members)) h
attribute_members-put k d (member l e ms) h = put_next (byte_cmp k l) k l d e ms refl h (attribute_members-put k d ms h)

-- ---- what is carried

unless_null-other : (d : Data) → (d ≢ null) → unless_null (Some d) ≡ Some d
unless_null-other null h = absurd (h refl)
unless_null-other (boolean b) h = refl
unless_null-other (number n) h = refl
unless_null-other (string s) h = refl
unless_null-other (array ds) h = refl
unless_null-other (object ms) h = refl

bytes_name-tree_name : bytes_name ≡ tree_name → ⊥
bytes_name-tree_name h = cc

tree_name-bytes_name : tree_name ≡ bytes_name → ⊥
tree_name-bytes_name h = bytes_name-tree_name (sym h)

offered_in-with_content : (c : Content) (attributes : List (List ℕ × Scalar)) → IsCarried c → ArePlain attributes → offered_in (with_content c (direct attributes)) ≡ offered_of c
offered_in-with_content content.Nothing attributes carried plain =
    ap₂ (λ t b. payload (unless_null t) (unless_null b)) (no_tree attributes plain) (no_bytes attributes plain)
offered_in-with_content (content.Tree d) attributes carried plain =
    let ms = direct attributes in
    ap₂ (λ t b. payload (unless_null t) (unless_null b)) (get_member-put tree_name d ms) (get_member-put_other bytes_name tree_name d ms bytes_name-tree_name ∙ no_bytes attributes plain)
    ∙ ap (λ t. payload t None) (unless_null-other d carried.0)
offered_in-with_content (content.Bytes b) attributes carried plain =
    let ms = direct attributes in
    let coded = string (encode_of standard b) in
    ap₂ (λ t b. payload (unless_null t) (unless_null b)) (get_member-put_other tree_name bytes_name coded ms tree_name-bytes_name ∙ no_tree attributes plain) (get_member-put bytes_name coded ms)
    ∙ ap decoded (decode_of-encode_of standard b refl carried)

attribute_members-with_content : (c : Content) (ms : Members) → attribute_members (with_content c ms) ≡ attribute_members ms
attribute_members-with_content content.Nothing ms = refl
attribute_members-with_content (content.Tree d) ms = attribute_members-put tree_name d ms tree_is_payload
attribute_members-with_content (content.Bytes b) ms = attribute_members-put bytes_name (string (encode_of standard b)) ms bytes_is_payload

pub parts_in-members_of : Laws → (e : EventValue) → IsEvent e → parts_in (members_of e) ≡ parts_of e
parts_in-members_of laws e h =
    let plain = plain_all e.attributes (laws.names e h) in
    let ms = direct e.attributes in
    ap parts_in (laws.members e h)
    ∙ ap₂ offer
    (ap spelled (attribute_members-with_content e.content ms ∙ attribute_members-direct e.attributes plain) ∙ spelled-direct e.attributes (laws.values e h))
    (offered_in-with_content e.content e.attributes h.carried plain)
