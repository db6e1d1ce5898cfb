-- How long the text of an event with its number is.
use Rattle.std.proofs.Common.{◌≡◌, ◌≤◌, ℕ, zero, suc, ◌+◌, List, [], ◌∷◌, ◌++◌, Bool, true, false, ◌&&◌, ◌==◌, bytes_eq, codes, length, refl, sym, ap, ap₂, ◌∙◌, arith, is_eq, true≢false, length-append, Some}
use Rattle.std.specs.declared.cmp.Ordering.{Ordering}
use Rattle.std.specs.declared.cmp.Ordering.TheVariants.{Less, Equal, Greater}
use Rattle.std.specs.Ordering.{match_ordering}
use Rattle.std.specs.Char.{is_ascii_digit}
use Rattle.std.specs.List.{AllByRecursion, list_all}
use Rattle.std.proofs.lemmas.Bool.Decides.{nat_tests}
use Rattle.json.specs.Print.{escape, quoted}
use Rattle.base64.specs.Engines.{standard}
use Rattle.base64.specs.GeneralPurpose.{encode_of}
use Rattle.serde_json.specs.Data.{Data, string, Members, no_members, member, put}
use Rattle.serde_json.specs.Written.{compact_text, members_text}
use Rattle.attributes.specs.Bytes.{byte_cmp}
use Rattle.attributes.specs.Character.{is_filled, is_name}
use Rattle.attributes.specs.Event.{EventValue, direct, json_of, members_of, text, with_content, words_or_empty}
use Rattle.attributes.specs.Fault.{IsEvent}
use Rattle.attributes.specs.Members.{value_at, with_value}
use Rattle.attributes.specs.Sequence.{sequence_of}
use Rattle.attributes.specs.steps.Plain.{is_plain, is_plain_byte}
use Rattle.attributes.specs.declared.content.Content.{Content}
use Rattle.attributes.specs.declared.content.Content.TheVariants as content
use Rattle.attributes.specs.declared.scalar.Scalar.{Scalar}
use Rattle.attributes.specs.declared.scalar.Scalar.TheVariants as scalar
use Rattle.attributes.proofs.BoolLemmas.{and_parts}
use Rattle.attributes.proofs.EventLemmas.{id_filled, members_direct, names_allowed}
use Rattle.attributes.proofs.ObjectLemmas.{with_all-direct}
use Rattle.attributes.proofs.ObjectTextLemmas.{escape_plain}
use Rattle.numbers.specs.Numbered.{HasNone, with_sequence}
use Rattle.numbers.proofs.DigitLemmas.{read_of}
use Rattle.numbers.proofs.NumberedLemmas.{in_order, tie_tells}

abbrev key : List ℕ
key = codes "sequence"

-- the bytes of a member, with a comma
abbrev one : List ℕ → Data → ℕ
one k d = 2 + (length (quoted k) + length (compact_text d))

abbrev weight : Members → ℕ
weight no_members = 0
weight (member k d ms) = one k d + weight ms

later : (ms : Members) → length (members_text true ms) ≡ suc (weight ms)
later no_members = refl
later (member k d ms) =
    let rest = later ms in
    let a = length-append (quoted k) (58 ∷ (compact_text d ++ members_text true ms)) in
    let b = length-append (compact_text d) (members_text true ms) in
    omega (arith, rest, a, b)

first : (ms : Members) → 1 ≤ weight ms → length (members_text false ms) ≡ weight ms
first no_members h = absurd (omega (arith, h))
first (member k d ms) h =
    let rest = later ms in
    let a = length-append (quoted k) (58 ∷ (compact_text d ++ members_text true ms)) in
    let b = length-append (compact_text d) (members_text true ms) in
    omega (arith, rest, a, b)

-- no member has the name
abbrev Lacks : List ℕ → Members → Type 0
Lacks k no_members = Unit {0}
Lacks k (member l d ms) = (bytes_eq k l ≡ false) × Lacks k ms

weight_put : (k : List ℕ) (d : Data) (ms : Members) → Lacks k ms → weight (put k d ms) ≡ one k d + weight ms
weight_put k d no_members h = omega arith
weight_put k d (member l e ms) h = by (byte_cmp k l) refl (weight_put k d ms h.1)
  where
    by : (r : Ordering) → byte_cmp k l ≡ r → weight (put k d ms) ≡ one k d + weight ms → weight (match_ordering r (member k d (member l e ms)) (member l d ms) (member l e (put k d ms))) ≡ one k d + (one l e + weight ms)
    by Less t f = omega arith
    by Equal t f = absurd (true≢false (sym (tie_tells k l Equal t) ∙ h.0))
    by Greater t f = omega (arith, f)

pub direct_with : (name : List ℕ) (s : Scalar) (a : List (List ℕ × Scalar)) → direct (with_value name s a) ≡ put name (json_of s) (direct a)
direct_with name s [] = refl
direct_with name s (m ∷ ms) = by (byte_cmp name m.0) (direct_with name s ms)
  where
    by : (r : Ordering) → direct (with_value name s ms) ≡ put name (json_of s) (direct ms)
        → direct (match_ordering r ((name, s) ∷ m ∷ ms) ((m.0, s) ∷ ms) (m ∷ with_value name s ms)) ≡ match_ordering r (member name (json_of s) (direct (m ∷ ms))) (member m.0 (json_of s) (direct ms)) (member m.0 (json_of m.1) (put name (json_of s) (direct ms)))
    by Less f = refl
    by Equal f = refl
    by Greater f = ap (λ l. member m.0 (json_of m.1) l) f

none_is : (b : Bool) → (b ≡ true → ⊥) → b ≡ false
none_is true h = absurd (h refl)
none_is false h = refl

apart : (k l : List ℕ) → is_name k ≡ false → is_name l ≡ true → bytes_eq k l ≡ false
apart k l bad good = none_is (bytes_eq k l) (λ t. true≢false (sym (ap is_name ((Rattle.std.proofs.lemmas.Slice.Eq.bytes_eq-Decides k l).0 t) ∙ good) ∙ bad))

lacks_direct : (k : List ℕ) (a : List (List ℕ × Scalar)) → is_name k ≡ false → AllByRecursion (λ m. is_name m.0 ≡ true) a → Lacks k (direct a)
lacks_direct k [] bad all = tt
lacks_direct k (m ∷ ms) bad all = (apart k m.0 bad all.0, lacks_direct k ms bad all.1)

lacks_key : (k : List ℕ) (a : List (List ℕ × Scalar)) → value_at k a ≡ Rattle.std.proofs.Common.None → Lacks k (direct a)
lacks_key k [] h = tt
lacks_key k (m ∷ ms) h = let p = Rattle.numbers.proofs.NumberedLemmas.none_parts k m.1 (bytes_eq k m.0) m.1 (value_at k ms) h in (p.0, lacks_key k ms p.1)

lacks_put : (k name : List ℕ) (d : Data) (ms : Members) → bytes_eq k name ≡ false → Lacks k ms → Lacks k (put name d ms)
lacks_put k name d no_members t h = (t, tt)
lacks_put k name d (member l e ms) t h = by (byte_cmp name l) (lacks_put k name d ms t h.1)
  where
    by : (r : Ordering) → Lacks k (put name d ms) → Lacks k (match_ordering r (member name d (member l e ms)) (member l d ms) (member l e (put name d ms)))
    by Less f = (t, h)
    by Equal f = h
    by Greater f = (h.0, f)

-- what the content adds
abbrev of_content : Content → ℕ
of_content content.Nothing = 0
of_content (content.Tree d) = one (codes "data") d
of_content (content.Bytes b) = one (codes "data_base64") (string (encode_of standard b))

with_weight : (c : Content) (ms : Members) → Lacks (codes "data") ms → Lacks (codes "data_base64") ms → weight (with_content c ms) ≡ of_content c + weight ms
with_weight content.Nothing ms p q = omega arith
with_weight (content.Tree d) ms p q = weight_put (codes "data") d ms p
with_weight (content.Bytes b) ms p q = weight_put (codes "data_base64") (string (encode_of standard b)) ms q

plain_digit : (c : ℕ) → is_ascii_digit c ≡ true → is_plain_byte c ≡ true
plain_digit c h = grind (arith, nat_tests)

plain_digits : (t : List ℕ) → list_all is_ascii_digit t ≡ true → is_plain t ≡ true
plain_digits [] h = refl
plain_digits (c ∷ t) h = let two = and_parts (is_ascii_digit c) (list_all is_ascii_digit t) h in ap₂ (λ (x y : Bool). x && y) (plain_digit c two.0) (plain_digits t two.1)

quoted_plain : (s : List ℕ) → is_plain s ≡ true → length (quoted s) ≡ length s + 2
quoted_plain s h = let a = length-append (escape s) (34 ∷ []) in let b = ap length (escape_plain s h) in omega (arith, a, b)

added : (t : List ℕ) (n : ℕ) → sequence_of t ≡ Some n → one key (string t) ≡ 34
added t n h =
    let r = read_of t n h in
    let a = quoted_plain t (plain_digits t r.digits) in
    let b = quoted_plain key refl in
    let l : length t ≡ 20 = r.long in
    omega (arith, a, b, l)

some_weight : (e : EventValue) → IsEvent e → 1 ≤ weight (direct e.attributes)
some_weight e h = by e.attributes (id_filled e h)
  where
    by : (a : List (List ℕ × Scalar)) → is_filled (words_or_empty (value_at (codes "id") a)) ≡ true → 1 ≤ weight (direct a)
    by [] t = absurd (true≢false (sym t))
    by (m ∷ ms) t = omega arith

pub longer : (e : EventValue) (t : List ℕ) (n : ℕ) → IsEvent e → HasNone e → sequence_of t ≡ Some n → length (text (with_sequence t e)) ≡ length (text e) + 34
longer e t n h none s =
    let a = e.attributes in
    let M = direct a in
    let N = put key (string t) M in
    let is : members_of e ≡ with_content e.content M = members_direct e h in
    let new : members_of (with_sequence t e) ≡ with_content e.content N = ap (with_content e.content) (with_all-direct (with_sequence t e).attributes (in_order e t h) ∙ direct_with key (scalar.Words t) a) in
    let names = names_allowed e h in
    let d : Lacks (codes "data") M = lacks_direct (codes "data") a refl names in
    let b : Lacks (codes "data_base64") M = lacks_direct (codes "data_base64") a refl names in
    let w : weight (with_content e.content M) ≡ of_content e.content + weight M = with_weight e.content M d b in
    let v : weight (with_content e.content N) ≡ of_content e.content + weight N = with_weight e.content N (lacks_put (codes "data") key (string t) M refl d) (lacks_put (codes "data_base64") key (string t) M refl b) in
    let u : weight N ≡ one key (string t) + weight M = weight_put key (string t) M (lacks_key key a none) in
    let k = added t n s in
    let some = some_weight e h in
    let old_text : length (text e) ≡ suc (length (members_text false (with_content e.content M))) = ap (λ ms. suc (length (members_text false ms))) is in
    let new_text : length (text (with_sequence t e)) ≡ suc (length (members_text false (with_content e.content N))) = ap (λ ms. suc (length (members_text false ms))) new in
    let f = first (with_content e.content M) (omega (arith, w, some)) in
    let g = first (with_content e.content N) (omega (arith, v, u, some)) in
    omega (arith, old_text, new_text, f, g, w, v, u, k)
