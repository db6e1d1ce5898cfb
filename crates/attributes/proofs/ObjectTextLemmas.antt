-- An object's text, written from the left.
use Rattle.std.proofs.Common.{◌≡◌, ◌∙◌, ℕ, Bool, true, false, not, ◌&&◌, ◌==◌, List, [], ◌∷◌, ◌++◌, length, refl, ap, ap₂, sym, arith, append_assoc, length-append}
use Rattle.std.specs.Fmt.{signed_decimal}
use Rattle.std.specs.Prelude.{ℤ, pos, negsuc, nat_le, nat_lt, codes, bytes_eq}
use Rattle.std.specs.declared.cmp.Ordering.{Ordering}
use Rattle.std.specs.declared.cmp.Ordering.TheVariants.{Less, Equal, Greater}
use Rattle.std.specs.Ordering.{match_ordering}
use Rattle.std.specs.List.{list_all}
use Rattle.std.proofs.lemmas.Bool.Decides.{nat_tests}
use Rattle.base64.specs.Engines.{standard}
use Rattle.base64.specs.GeneralPurpose.{encode_of}
use Rattle.json.specs.Print.{escape, escape_byte, quoted}
use Rattle.serde_json.specs.Data.{Data, null, string, object, Members, no_members, member, put}
use Rattle.serde_json.specs.Written.{comma_if, compact_text, members_text}
use Rattle.attributes.specs.Bytes.{byte_cmp}
use Rattle.attributes.specs.Character.{is_name, is_name_byte}
use Rattle.attributes.specs.Event.{json_of, with_all, with_content, direct}
use Rattle.attributes.specs.Members.{named, AreNamesInOrder}
use Rattle.attributes.specs.declared.content.Content.{Content}
use Rattle.attributes.specs.declared.content.Content.TheVariants as content
use Rattle.attributes.specs.steps.ObjectText.{IsPayload, onto, pending}
use Rattle.attributes.specs.steps.Plain.{is_plain_byte, is_plain}
use Rattle.attributes.specs.declared.scalar.Scalar.{Scalar}
use Rattle.attributes.specs.declared.scalar.Scalar.TheVariants as scalar
use Rattle.attributes.proofs.BoolLemmas.{and_parts}
use Rattle.attributes.proofs.PutLemmas.{text_equal}
use Rattle.attributes.proofs.ObjectLemmas.{with_all-direct}

escape_byte_plain : (b : ℕ) → is_plain_byte b ≡ true → escape_byte b ≡ b ∷ []
unfolding escape_byte
escape_byte_plain b h =
    let low = and_parts (nat_le 32 b) _ h in
    let marks = and_parts (not (b == 34)) (not (b == 92)) low.1 in
    let quote : (b == 34) ≡ false = grind (arith, nat_tests) in
    let slash : (b == 92) ≡ false = grind (arith, nat_tests) in
    let eight : (b == 8) ≡ false = grind (arith, nat_tests) in
    let twelve : (b == 12) ≡ false = grind (arith, nat_tests) in
    let ten : (b == 10) ≡ false = grind (arith, nat_tests) in
    let thirteen : (b == 13) ≡ false = grind (arith, nat_tests) in
    let nine : (b == 9) ≡ false = grind (arith, nat_tests) in
    let above : nat_lt b 32 ≡ false = grind (arith, nat_tests) in
    rw (quote, slash, eight, twelve, ten, thirteen, nine, above) refl

pub escape_plain : (s : List ℕ) → is_plain s ≡ true → escape s ≡ s
escape_plain [] h = refl
escape_plain (b ∷ s) h =
    let both = and_parts (is_plain_byte b) (is_plain s) h in
    ap₂ (λ (x y : List ℕ). x ++ y) (escape_byte_plain b both.0) (escape_plain s both.1)

plain_name_byte : (b : ℕ) → is_name_byte b ≡ true → is_plain_byte b ≡ true
plain_name_byte b h = grind (arith, nat_tests)

plain_bytes : (s : List ℕ) → list_all is_name_byte s ≡ true → is_plain s ≡ true
plain_bytes [] h = refl
plain_bytes (b ∷ s) h =
    let both = and_parts (is_name_byte b) (list_all is_name_byte s) h in
    ap₂ (λ (x y : Bool). x && y) (plain_name_byte b both.0) (plain_bytes s both.1)

pub plain_name : (s : List ℕ) → is_name s ≡ true → is_plain s ≡ true
plain_name s h = plain_bytes s (and_parts (not (length s == 0)) (list_all is_name_byte s) (and_parts (not (length s == 0) && list_all is_name_byte s) (not (bytes_eq s (codes "data"))) h).0).1

-- ---- members behind members

behind_name : (out c s t : List ℕ) → nat_lt 1 (length (out ++ (c ++ (34 ∷ (s ++ 34 ∷ []) ++ 58 ∷ t)))) ≡ true
behind_name out c s t = grind (arith, nat_tests, length-append)

line : (out c q t m : List ℕ) → (out ++ (c ++ (q ++ 58 ∷ t))) ++ m ≡ out ++ (c ++ (q ++ 58 ∷ (t ++ m)))
line out c q t m = simp append_assoc refl

pub onto-member : (out k : List ℕ) (d : Data) (ms : Members) → onto (out ++ (comma_if (nat_lt 1 (length out)) ++ (quoted k ++ 58 ∷ compact_text d))) ms ≡ onto out (member k d ms)
onto-member out k d ms =
    let c = comma_if (nat_lt 1 (length out)) in
    ap (λ (b : Bool). (out ++ (c ++ (quoted k ++ 58 ∷ compact_text d))) ++ members_text b ms) (behind_name out c (escape k) (compact_text d))
    ∙ line out c (quoted k) (compact_text d) (members_text true ms)

-- ---- the payload among the attributes

third : (o : Ordering) (a b c : Members) → (o ≡ Less → ⊥) → (o ≡ Equal → ⊥) → match_ordering o a b c ≡ c
third Less a b c p q = absurd (p refl)
third Equal a b c p q = absurd (q refl)
third Greater a b c p q = refl

first : (o : Ordering) (a b c : Members) → o ≡ Less → match_ordering o a b c ≡ a
first o a b c p = ap (λ (x : Ordering). match_ordering x a b c) p

true_false : true ≡ false → ⊥
true_false e = cc

-- an attribute that isn't above the name goes before it
pub put_above : (k l : List ℕ) (d e : Data) (ms : Members) → is_name k ≡ false → is_name l ≡ true → (byte_cmp k l ≡ Less → ⊥) → put k d (member l e ms) ≡ member l e (put k d ms)
put_above k l d e ms out named above =
    third (byte_cmp k l) (member k d (member l e ms)) (member l d ms) (member l e (put k d ms)) above
    (λ same. true_false (sym named ∙ (ap is_name (sym (text_equal k l same)) ∙ out)))

pub put_below : (k l : List ℕ) (d e : Data) (ms : Members) → byte_cmp k l ≡ Less → put k d (member l e ms) ≡ member k d (member l e ms)
put_below k l d e ms below = first (byte_cmp k l) (member k d (member l e ms)) (member l d ms) (member l e (put k d ms)) below

-- the members of a content among those of the attributes
pub with_payload : (c : Content) (there : Bool) (name json new old : List ℕ) (ms : Members) → IsPayload c there name json → ((d : Data) → (there ≡ true → json ≡ compact_text d) → onto new no_members ≡ onto old (pending there name d ms)) → onto new no_members ≡ onto old (with_content c ms)
with_payload content.Nothing there name json new old ms is h =
    let none : there ≡ true → json ≡ compact_text null = λ (e : there ≡ true). absurd (true_false (sym e ∙ is.0)) in
    h null none ∙ ap (λ (b : Bool). onto old (pending b name null ms)) is.0
with_payload (content.Tree d) there name json new old ms is h =
    h d (λ e. is.2) ∙ ap₂ (λ (b : Bool) (k : List ℕ). onto old (pending b k d ms)) is.0 is.1
with_payload (content.Bytes b) there name json new old ms is h =
    let d = string (encode_of standard b) in
    h d (λ e. is.2) ∙ ap₂ (λ (w : Bool) (k : List ℕ). onto old (pending w k d ms)) is.0 is.1

-- a payload that is no member has no text
pub empty_payload : (c : Content) (there : Bool) (name json : List ℕ) → IsPayload c there name json → there ≡ false → json ≡ []
empty_payload content.Nothing there name json is none = is.2
empty_payload (content.Tree d) there name json is none = absurd (true_false (sym is.0 ∙ none))
empty_payload (content.Bytes b) there name json is none = absurd (true_false (sym is.0 ∙ none))

-- the payload's name is written as it is, and is none of an attribute
pub plain_payload : (c : Content) (there : Bool) (name json : List ℕ) → IsPayload c there name json → is_plain name ≡ true
plain_payload content.Nothing there name json is = ap is_plain is.1
plain_payload (content.Tree d) there name json is = ap is_plain is.1
plain_payload (content.Bytes b) there name json is = ap is_plain is.1

pub other_payload : (c : Content) (there : Bool) (name json : List ℕ) → IsPayload c there name json → is_name name ≡ false
other_payload content.Nothing there name json is = ap is_name is.1
other_payload (content.Tree d) there name json is = ap is_name is.1
other_payload (content.Bytes b) there name json is = ap is_name is.1

pub laid_whole : (out kept : List ℕ) (attributes : List (List ℕ × Scalar)) (c : Content) → AreNamesInOrder attributes → kept ≡ out ++ 125 ∷ [] → onto out no_members ≡ onto (123 ∷ []) (with_content c (direct attributes)) → kept ≡ compact_text (object (with_content c (with_all no_members attributes)))
laid_whole out kept attributes c order closed h =
    closed ∙ (h ∙ ap (λ (ms : Members). compact_text (object (with_content c ms))) (sym (with_all-direct attributes order)))

pub name_line : (old one two three name c : List ℕ) → one ≡ old ++ c → two ≡ one ++ 34 ∷ (name ++ 34 ∷ []) → three ≡ two ++ 58 ∷ [] → is_plain name ≡ true → three ≡ old ++ (c ++ (quoted name ++ 58 ∷ []))
name_line old one two three name c a b e plain =
    e
    ∙ (ap (λ (t : List ℕ). t ++ 58 ∷ []) (b ∙ ap₂ (λ (t k : List ℕ). t ++ 34 ∷ (k ++ 34 ∷ [])) a (sym (escape_plain name plain)))
    ∙ (append_assoc (old ++ c) (quoted name) (58 ∷ [])
    ∙ append_assoc old c (quoted name ++ 58 ∷ [])))

-- a member whose value has this text
pub member_line : (old one two name json : List ℕ) (d : Data) (ms : Members) → one ≡ old ++ (comma_if (nat_lt 1 (length old)) ++ (quoted name ++ 58 ∷ [])) → two ≡ one ++ json → json ≡ compact_text d → onto two ms ≡ onto old (member name d ms)
member_line old one two name json d ms a b text =
    ap (λ (t : List ℕ). onto t ms) (b ∙ (ap₂ (λ (x y : List ℕ). x ++ y) a text ∙ line old (comma_if (nat_lt 1 (length old))) (quoted name) [] (compact_text d)))
    ∙ onto-member old name d ms

pub whole_text : (z : ℤ) → signed_decimal z ≡ compact_text (json_of (scalar.Whole z))
whole_text (pos n) = refl
whole_text (negsuc n) = refl
