-- What the JSON object of attributes is made of: no float, and no depth of its own.
use Rattle.std.proofs.Common.{◌≡◌, ◌≤◌, ℕ, pos, negsuc, true, false, List, [], ◌∷◌, refl, arith}
use Rattle.serde_json.specs.Data.{Data, string, Members, no_members, member, put, depth, members_depth}
use Rattle.serde_json.specs.Written.{has_float, members_have_float}
use Rattle.std.specs.Prelude.{codes}
use Rattle.std.proofs.lemmas.Bool.Decides.{nat_tests}
use Rattle.base64.specs.Engines.{standard}
use Rattle.base64.specs.GeneralPurpose.{encode_of}
use Rattle.attributes.specs.Bytes.{byte_cmp}
use Rattle.attributes.proofs.BoolLemmas.{not_true, or_false, or_left, or_right}
use Rattle.attributes.proofs.PutLemmas.{by_order}
use Rattle.attributes.specs.Event.{json_of, with_all, with_content}
use Rattle.attributes.specs.Fault.{has_whole_numbers, is_shallow, offered_of}
use Rattle.attributes.specs.declared.content.Content.{Content}
use Rattle.attributes.specs.declared.content.Content.TheVariants as content
use Rattle.attributes.specs.declared.scalar.Scalar.{Scalar}
use Rattle.attributes.specs.declared.scalar.Scalar.TheVariants as scalar

pub has_float-put : (k : List ℕ) (d : Data) (ms : Members) → has_float d ≡ false → members_have_float ms ≡ false → members_have_float (put k d ms) ≡ false
has_float-put k d no_members h m = or_false (has_float d) false h refl
has_float-put k d (member l e ms) h m =
    let first : has_float e ≡ false = or_left (has_float e) (members_have_float ms) m in
    let rest : members_have_float ms ≡ false = or_right (has_float e) (members_have_float ms) m in
    by_order (λ xs. members_have_float xs ≡ false) (byte_cmp k l) (member k d (member l e ms)) (member l d ms) (member l e (put k d ms))
    (or_false (has_float d) _ h m)
    (or_false (has_float d) _ h rest)
    (or_false (has_float e) _ first (has_float-put k d ms h rest))

has_float-json_of : (s : Scalar) → has_float (json_of s) ≡ false
has_float-json_of (scalar.Flag b) = refl
has_float-json_of (scalar.Whole (pos n)) = refl
has_float-json_of (scalar.Whole (negsuc n)) = refl
has_float-json_of (scalar.Words t) = refl

pub has_float-with_all : (attributes : List (List ℕ × Scalar)) (ms : Members) → members_have_float ms ≡ false → members_have_float (with_all ms attributes) ≡ false
has_float-with_all [] ms h = h
has_float-with_all (a ∷ rest) ms h = has_float-with_all rest (put a.0 (json_of a.1) ms) (has_float-put a.0 (json_of a.1) ms (has_float-json_of a.1) h)

pub depth-put : (k : List ℕ) (d : Data) (ms : Members) (n : ℕ) → depth d ≤ n → members_depth ms ≤ n → members_depth (put k d ms) ≤ n
depth-put k d no_members n h m = omega arith
depth-put k d (member l e ms) n h m =
    by_order (λ xs. members_depth xs ≤ n) (byte_cmp k l) (member k d (member l e ms)) (member l d ms) (member l e (put k d ms))
    (omega arith)
    (omega arith)
    (let rest : members_depth (put k d ms) ≤ n = depth-put k d ms n h (omega arith) in omega arith)

depth-json_of : (s : Scalar) → depth (json_of s) ≡ 0
depth-json_of (scalar.Flag b) = refl
depth-json_of (scalar.Whole z) = refl
depth-json_of (scalar.Words t) = refl

pub depth-with_all : (attributes : List (List ℕ × Scalar)) (ms : Members) (n : ℕ) → members_depth ms ≤ n → members_depth (with_all ms attributes) ≤ n
depth-with_all [] ms n h = h
depth-with_all (a ∷ rest) ms n h =
    let flat : depth (json_of a.1) ≡ 0 = depth-json_of a.1 in
    depth-with_all rest (put a.0 (json_of a.1) ms) n (depth-put a.0 (json_of a.1) ms n (omega arith) h)

-- ---- with a payload member

pub whole_with : (c : Content) (ms : Members) → has_whole_numbers (offered_of c) ≡ true → members_have_float ms ≡ false → members_have_float (with_content c ms) ≡ false
whole_with content.Nothing ms h m = m
whole_with (content.Tree d) ms h m = has_float-put (codes "data") d ms (not_true (has_float d) h) m
whole_with (content.Bytes b) ms h m = has_float-put (codes "data_base64") (string (encode_of standard b)) ms refl m

pub shallow_with : (c : Content) (ms : Members) → is_shallow (offered_of c) ≡ true → members_depth ms ≤ 0 → members_depth (with_content c ms) ≤ 120
shallow_with content.Nothing ms h m = omega arith
shallow_with (content.Tree d) ms h m = let low : depth d ≤ 120 = grind (arith, nat_tests) in depth-put (codes "data") d ms 120 low (omega arith)
shallow_with (content.Bytes b) ms h m = let flat : depth (string (encode_of standard b)) ≤ 120 = omega arith in depth-put (codes "data_base64") (string (encode_of standard b)) ms 120 flat (omega arith)
