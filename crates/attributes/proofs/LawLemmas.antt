-- Different events have different texts.
use Rattle.std.proofs.Common.{◌≡◌, ◌∙◌, ◌≤◌, ℕ, pos, negsuc, true, List, [], ◌∷◌, Some, ap, sym, subst, arith}
use Rattle.std.specs.Prelude.{codes, int_lt, ltb, not}
use Rattle.std.specs.List.{list_all}
use Rattle.std.specs.List.Sorted.{IsStrictlySortedBy}
use Rattle.std.proofs.lemmas.Bool.Decides.{nat_tests}
use Rattle.base64.specs.Engines.{standard}
use Rattle.base64.specs.GeneralPurpose.{encode_of}
use Rattle.serde_json.specs.Data.{Data, object, string, Members, no_members, member, put, members_depth}
use Rattle.serde_json.specs.Read.{read}
use Rattle.attributes.specs.Bytes.{byte_cmp}
use Rattle.attributes.specs.Event.{EventValue, json_of, members_of, text, with_all, with_content, direct}
use Rattle.attributes.specs.Exact.{IsExact, KeysAscend, MembersAreExact}
use Rattle.attributes.specs.Fault.{IsCarried, IsEvent, is_attribute, given_of, given_all, offered_of, parts_of}
use Rattle.attributes.specs.steps.Kept.{KeepsText}
use Rattle.attributes.specs.declared.scalar.Scalar.{Scalar}
use Rattle.attributes.specs.declared.scalar.Scalar.TheVariants as scalar
use Rattle.attributes.specs.declared.content.Content.{Content}
use Rattle.attributes.specs.declared.content.Content.TheVariants as content
use Rattle.attributes.proofs.ObjectLemmas.{member_names-direct, members_of-direct, same_members}
use Rattle.attributes.proofs.ExactLemmas.{KeysAscend-put}
use Rattle.attributes.proofs.PutLemmas.{by_order}
use Rattle.attributes.proofs.RoundTripLemmas.{read-compact_text}
use Rattle.attributes.proofs.BoolLemmas.{and_parts}
use Rattle.attributes.proofs.FaultLemmas.{values_pass, depth_passes, no_member_fault, no_payload_fault}
use Rattle.attributes.proofs.TreeLemmas.{depth-with_all, shallow_with}

abbrev InOrderNames : List (List ℕ) → Type 0
InOrderNames names = IsStrictlySortedBy byte_cmp names

exact_json : (s : Scalar) → is_attribute (given_of s) ≡ true → IsExact (json_of s)
exact_json (scalar.Flag b) h = tt
exact_json (scalar.Whole (pos n)) h = let below : ltb n 2147483648 ≡ true = (and_parts (not (int_lt (pos n) (negsuc 2147483647))) (int_lt (pos n) (pos 2147483648)) h).1 in grind (arith, nat_tests)
exact_json (scalar.Whole (negsuc n)) h = let above : not (ltb 2147483647 n) ≡ true = (and_parts (not (int_lt (negsuc n) (negsuc 2147483647))) (int_lt (negsuc n) (pos 2147483648)) h).0 in grind (arith, nat_tests)
exact_json (scalar.Words t) h = tt

exact_direct : (attributes : List (List ℕ × Scalar)) → list_all (λ m. is_attribute m.1) (given_all attributes) ≡ true → MembersAreExact (direct attributes)
exact_direct [] h = tt
exact_direct (a ∷ rest) h = let both = and_parts (is_attribute (given_of a.1)) _ h in (exact_json a.1 both.0, exact_direct rest both.1)

MembersAreExact-put : (k : List ℕ) (d : Data) (ms : Members) → IsExact d → MembersAreExact ms → MembersAreExact (put k d ms)
MembersAreExact-put k d no_members h m = (h, tt)
MembersAreExact-put k d (member l e ms) h m =
    by_order MembersAreExact (byte_cmp k l) (member k d (member l e ms)) (member l d ms) (member l e (put k d ms))
    (h, (m.0, m.1)) (h, m.1) (m.0, MembersAreExact-put k d ms h m.1)

exact_with : (c : Content) (ms : Members) → IsCarried c → KeysAscend ms → MembersAreExact ms → IsExact (object (with_content c ms))
exact_with content.Nothing ms h keys m = (keys, m)
exact_with (content.Tree d) ms h keys m = (KeysAscend-put (codes "data") d ms keys, MembersAreExact-put (codes "data") d ms h.1 m)
exact_with (content.Bytes b) ms h keys m = (KeysAscend-put (codes "data_base64") (string (encode_of standard b)) ms keys, MembersAreExact-put (codes "data_base64") (string (encode_of standard b)) ms tt m)

pub exact_event : (e : EventValue) → IsEvent e → IsExact (object (members_of e))
exact_event e h =
    let passed = values_pass (given_all e.attributes) (no_member_fault (parts_of e) h.faultless) in
    subst (λ ms. IsExact (object ms)) (sym (members_of-direct e h))
    (exact_with e.content (direct e.attributes) h.carried (subst InOrderNames (sym (member_names-direct e.attributes)) h.in_order) (exact_direct e.attributes passed))

-- how deep an event's object nests, inside it
pub depth_event : (e : EventValue) → IsEvent e → members_depth (members_of e) ≤ 120
depth_event e h =
    let flat : members_depth (with_all no_members e.attributes) ≤ 0 = depth-with_all e.attributes no_members 0 (omega arith) in
    shallow_with e.content (with_all no_members e.attributes) (depth_passes (offered_of e.content) (no_payload_fault (parts_of e) h.faultless)) flat

-- an event's text reads back as its object
pub read-text : (e : EventValue) → IsEvent e → read (text e) ≡ Some (object (members_of e))
read-text e h =
    let low : members_depth (members_of e) ≤ 120 = depth_event e h in
    read-compact_text (object (members_of e)) (exact_event e h) (omega (arith, low))

pub same_object : (ms ns : Members) → Some (object ms) ≡ Some (object ns) → ms ≡ ns
same_object ms ns h = cc

-- different events have different texts
pub same_text : (e f : EventValue) → IsEvent e → IsEvent f → text e ≡ text f → e ≡ f
same_text e f p q h = same_members e f p q (same_object _ _ (sym (read-text e p) ∙ (ap read h ∙ read-text f q)))

-- events that keep one text are the same
pub same_kept : (e f : EventValue) (t u : List ℕ) → KeepsText e t → KeepsText f u → t ≡ u → e ≡ f
same_kept e f t u h k same = same_text e f h.event k.event (sym h.is_text ∙ (same ∙ k.is_text))
