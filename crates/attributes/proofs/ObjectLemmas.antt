-- The object of an event gives the event back.
use Rattle.std.proofs.Common.{◌≡◌, ◌∙◌, ℕ, pos, negsuc, Bool, true, false, List, [], ◌∷◌, refl, ap, ap₂, sym}
use Rattle.std.specs.Prelude.{if◌then◌else◌, codes, Option, Some, None, Result, Ok, Err}
use Rattle.std.specs.Ordering.{match_ordering}
use Rattle.std.specs.List.{list_all}
use Rattle.std.specs.List.Sorted.{IsStrictlySortedBy}
use Rattle.std.specs.declared.cmp.Ordering.{Ordering}
use Rattle.std.specs.declared.cmp.Ordering.TheVariants.{Less, Equal, Greater}
use Rattle.base64.specs.Engines.{standard}
use Rattle.base64.specs.GeneralPurpose.{IsBytes, IsConsistent, encode_of, decode_of}
use Rattle.base64.specs.declared.DecodeError.{DecodeError}
use Rattle.base64.proofs.EngineFacts.{decode_of-encode_of}
use Rattle.serde_json.specs.Data.{Data, string, Members, no_members, member, put}
use Rattle.serde_json.specs.Find.{get_member}
use Rattle.serde_json.proofs.Views.{get_member-put, get_member-put_other}
use Rattle.attributes.specs.Bytes.{byte_cmp}
use Rattle.attributes.specs.Character.{is_name}
use Rattle.std.specs.Map.{keys_of}
use Rattle.attributes.specs.Members.{AreNamesInOrder}
use Rattle.attributes.specs.Event.{EventValue, json_of, with_all, with_content, members_of, direct}
use Rattle.attributes.specs.Exact.{member_names}
use Rattle.attributes.specs.steps.ObjectText.{then_members}
use Rattle.attributes.specs.steps.Content.{HoldsBytes}
use Rattle.attributes.specs.Fault.{IsCarried, IsEvent, given_all, parts_of}
use Rattle.attributes.specs.declared.scalar.Scalar.{Scalar}
use Rattle.attributes.specs.declared.scalar.Scalar.TheVariants as scalar
use Rattle.attributes.specs.declared.content.Content.{Content}
use Rattle.attributes.specs.declared.content.Content.TheVariants as content
use Rattle.attributes.proofs.OptionLemmas.{same_some}
use Rattle.attributes.proofs.BoolLemmas.{and_parts}
use Rattle.attributes.proofs.FaultLemmas.{names_given, names_pass, no_member_fault}
use Rattle.attributes.proofs.PutLemmas.{then_members-no_members, then_members-assoc, put-last, AreBelowAll, AreBelowAll-no_members, AreBelowAll-more, text_equal}

pub member_names-direct : (attributes : List (List ℕ × Scalar)) → member_names (direct attributes) ≡ keys_of attributes
member_names-direct [] = refl
member_names-direct (a ∷ rest) = ap (λ ns. a.0 ∷ ns) (member_names-direct rest)

with_all-then : (attributes : List (List ℕ × Scalar)) (ms : Members) → AreNamesInOrder attributes → AreBelowAll ms (keys_of attributes) → with_all ms attributes ≡ then_members ms (direct attributes)
unfolding IsStrictlySortedBy
with_all-then [] ms h below = sym (then_members-no_members ms)
with_all-then (a ∷ rest) ms h below =
    let last = then_members ms (member a.0 (json_of a.1) no_members) in
    ap (λ xs. with_all xs rest) (put-last ms a.0 (json_of a.1) below.0)
    ∙ (with_all-then rest last h.1 (AreBelowAll-more ms a.0 (json_of a.1) (keys_of rest) below.1 h.0)
    ∙ then_members-assoc ms (member a.0 (json_of a.1) no_members) (direct rest))

-- attributes in order stand in the object as they are
pub with_all-direct : (attributes : List (List ℕ × Scalar)) → AreNamesInOrder attributes → with_all no_members attributes ≡ direct attributes
with_all-direct attributes h = with_all-then attributes no_members h (AreBelowAll-no_members (keys_of attributes))

same_json : (s t : Scalar) → json_of s ≡ json_of t → s ≡ t
same_json (scalar.Flag b) (scalar.Flag c) h = cc
same_json (scalar.Flag b) (scalar.Whole z) h = cc
same_json (scalar.Flag b) (scalar.Words t) h = cc
same_json (scalar.Whole (pos n)) (scalar.Whole (pos m)) h = cc
same_json (scalar.Whole (pos n)) (scalar.Whole (negsuc m)) h = cc
same_json (scalar.Whole (negsuc n)) (scalar.Whole (pos m)) h = cc
same_json (scalar.Whole (negsuc n)) (scalar.Whole (negsuc m)) h = cc
same_json (scalar.Whole z) (scalar.Flag b) h = cc
same_json (scalar.Whole z) (scalar.Words t) h = cc
same_json (scalar.Words t) (scalar.Flag b) h = cc
same_json (scalar.Words t) (scalar.Whole z) h = cc
same_json (scalar.Words t) (scalar.Words u) h = cc

same_key : (k l : List ℕ) (d e : Data) (ms ns : Members) → member k d ms ≡ member l e ns → k ≡ l
same_key k l d e ms ns h = cc

same_value : (k l : List ℕ) (d e : Data) (ms ns : Members) → member k d ms ≡ member l e ns → d ≡ e
same_value k l d e ms ns h = cc

same_rest : (k l : List ℕ) (d e : Data) (ms ns : Members) → member k d ms ≡ member l e ns → ms ≡ ns
same_rest k l d e ms ns h = cc

some_member : (k : List ℕ) (d : Data) (ms : Members) → no_members ≡ member k d ms → ⊥
some_member k d ms h = cc

pub same_direct : (xs ys : List (List ℕ × Scalar)) → direct xs ≡ direct ys → xs ≡ ys
same_direct [] [] h = refl
same_direct [] (y ∷ ys) h = absurd (some_member y.0 (json_of y.1) (direct ys) h)
same_direct (x ∷ xs) [] h = absurd (some_member x.0 (json_of x.1) (direct xs) (sym h))
same_direct (x ∷ xs) (y ∷ ys) h =
    let name : x.0 ≡ y.0 = same_key x.0 y.0 (json_of x.1) (json_of y.1) (direct xs) (direct ys) h in
    let value : x.1 ≡ y.1 = same_json x.1 y.1 (same_value x.0 y.0 (json_of x.1) (json_of y.1) (direct xs) (direct ys) h) in
    let rest : xs ≡ ys = same_direct xs ys (same_rest x.0 y.0 (json_of x.1) (json_of y.1) (direct xs) (direct ys) h) in
    ap₂ (λ (n : List ℕ) (s : Scalar). (n, s) ∷ xs) name value ∙ ap (λ (r : List (List ℕ × Scalar)). (y.0, y.1) ∷ r) rest

-- ---- the payload member, and the others

-- no name of an attribute is that of a payload member
abbrev AreOthers : List (List ℕ × Scalar) → Type 0
AreOthers attributes = list_all (λ a. is_name a.0) attributes ≡ true

-- the members whose names may be those of attributes
others : Members → Members
others no_members = no_members
others (member k d ms) = if is_name k then member k d (others ms) else others ms

others_by : (k l : List ℕ) (d e : Data) (ms rest : Members) (o : Ordering) → is_name k ≡ false → byte_cmp k l ≡ o → others rest ≡ others ms → others (match_ordering o (member k d (member l e ms)) (member l d ms) (member l e rest)) ≡ others (member l e ms)
unfolding others
others_by k l d e ms rest Less h is more = ap (λ (b : Bool). if b then member k d (others (member l e ms)) else others (member l e ms)) h
others_by k l d e ms rest Equal h is more =
    let out : is_name l ≡ false = ap is_name (sym (text_equal k l is)) ∙ h in
    ap (λ (b : Bool). if b then member l d (others ms) else others ms) out ∙ ap (λ (b : Bool). if b then member l e (others ms) else others ms) (sym out)
others_by k l d e ms rest Greater h is more = ap (λ (xs : Members). if is_name l then member l e xs else xs) more

others_put : (k : List ℕ) (d : Data) (ms : Members) → is_name k ≡ false → others (put k d ms) ≡ others ms
unfolding others
others_put k d no_members h = ap (λ (b : Bool). if b then member k d no_members else no_members) h
others_put k d (member l e ms) h = others_by k l d e ms (put k d ms) (byte_cmp k l) h refl (others_put k d ms h)

others_direct : (attributes : List (List ℕ × Scalar)) → AreOthers attributes → others (direct attributes) ≡ direct attributes
unfolding others
others_direct [] h = refl
others_direct (a ∷ rest) h =
    let both = and_parts (is_name a.0) (list_all (λ b. is_name b.0) rest) h in
    ap (λ (b : Bool). if b then member a.0 (json_of a.1) (others (direct rest)) else others (direct rest)) both.0
    ∙ ap (member a.0 (json_of a.1)) (others_direct rest both.1)

others_of : (c : Content) (attributes : List (List ℕ × Scalar)) → AreOthers attributes → others (with_content c (direct attributes)) ≡ direct attributes
others_of content.Nothing attributes h = others_direct attributes h
others_of (content.Tree d) attributes h = others_put (codes "data") d (direct attributes) refl ∙ others_direct attributes h
others_of (content.Bytes b) attributes h = others_put (codes "data_base64") (string (encode_of standard b)) (direct attributes) refl ∙ others_direct attributes h

-- ---- the content

not_name : (k : List ℕ) (name : List ℕ) → is_name k ≡ false → is_name name ≡ true → byte_cmp k name ≡ Equal → ⊥
not_name k name h named same = true_false (sym named ∙ (ap is_name (sym (text_equal k name same)) ∙ h))
  where
    true_false : true ≡ false → ⊥
    true_false e = cc

absent_at : (o : Ordering) (x : Option Data) (e : Data) → (o ≡ Equal → ⊥) → x ≡ None → match_ordering o x (Some e) x ≡ None
absent_at Less x e apart h = h
absent_at Equal x e apart h = absurd (apart refl)
absent_at Greater x e apart h = h

get_member-direct : (k : List ℕ) (attributes : List (List ℕ × Scalar)) → is_name k ≡ false → AreOthers attributes → get_member k (direct attributes) ≡ None
get_member-direct k [] out h = refl
get_member-direct k (a ∷ rest) out h =
    let both = and_parts (is_name a.0) (list_all (λ b. is_name b.0) rest) h in
    absent_at (byte_cmp k a.0) (get_member k (direct rest)) (json_of a.1) (not_name k a.0 out both.0) (get_member-direct k rest out both.1)

names_differ : codes "data" ≡ codes "data_base64" → ⊥
names_differ e = cc

some_none : (x : Option Data) (d : Data) → x ≡ Some d → x ≡ None → ⊥
some_none x d h k = no_some (sym k ∙ h)
  where
    no_some : None ≡ Some d → ⊥
    no_some e = cc

same_string : (s t : List ℕ) → string s ≡ string t → s ≡ t
same_string s t h = cc

consistent : IsConsistent standard
consistent = refl

decoded : Result (List ℕ) DecodeError → List ℕ
decoded (Ok b) = b
decoded (Err e) = []

same_encoded : (a b : List ℕ) → IsBytes a → IsBytes b → encode_of standard a ≡ encode_of standard b → a ≡ b
unfolding decoded
same_encoded a b x y h = ap decoded (sym (decode_of-encode_of standard a consistent x) ∙ (ap (decode_of standard) h ∙ decode_of-encode_of standard b consistent y))

module _ (xs ys : List (List ℕ × Scalar)) (p : AreOthers xs) (q : AreOthers ys) where
  tree_absent : (b : List ℕ) → get_member (codes "data") (with_content (content.Bytes b) (direct xs)) ≡ None
  tree_absent b = get_member-put_other (codes "data") (codes "data_base64") (string (encode_of standard b)) (direct xs) names_differ ∙ get_member-direct (codes "data") xs refl p

  tree_absent_too : (b : List ℕ) → get_member (codes "data") (with_content (content.Bytes b) (direct ys)) ≡ None
  tree_absent_too b = get_member-put_other (codes "data") (codes "data_base64") (string (encode_of standard b)) (direct ys) names_differ ∙ get_member-direct (codes "data") ys refl q

  same_content : (c d : Content) → HoldsBytes c → HoldsBytes d → with_content c (direct xs) ≡ with_content d (direct ys) → c ≡ d
  same_content content.Nothing content.Nothing x y h = refl
  same_content content.Nothing (content.Tree d) x y h = absurd (some_none _ d (ap (get_member (codes "data")) h ∙ get_member-put (codes "data") d (direct ys)) (get_member-direct (codes "data") xs refl p))
  same_content content.Nothing (content.Bytes b) x y h = absurd (some_none _ (string (encode_of standard b)) (ap (get_member (codes "data_base64")) h ∙ get_member-put (codes "data_base64") (string (encode_of standard b)) (direct ys)) (get_member-direct (codes "data_base64") xs refl p))
  same_content (content.Tree d) content.Nothing x y h = absurd (some_none _ d (ap (get_member (codes "data")) (sym h) ∙ get_member-put (codes "data") d (direct xs)) (get_member-direct (codes "data") ys refl q))
  same_content (content.Tree d) (content.Tree e) x y h = ap content.Tree (same_some d e (sym (get_member-put (codes "data") d (direct xs)) ∙ (ap (get_member (codes "data")) h ∙ get_member-put (codes "data") e (direct ys))))
  same_content (content.Tree d) (content.Bytes b) x y h = absurd (some_none _ d (ap (get_member (codes "data")) (sym h) ∙ get_member-put (codes "data") d (direct xs)) (tree_absent_too b))
  same_content (content.Bytes b) content.Nothing x y h = absurd (some_none _ (string (encode_of standard b)) (ap (get_member (codes "data_base64")) (sym h) ∙ get_member-put (codes "data_base64") (string (encode_of standard b)) (direct xs)) (get_member-direct (codes "data_base64") ys refl q))
  same_content (content.Bytes b) (content.Tree d) x y h = absurd (some_none _ d (ap (get_member (codes "data")) h ∙ get_member-put (codes "data") d (direct ys)) (tree_absent b))
  same_content (content.Bytes a) (content.Bytes b) x y h =
      let texts : string (encode_of standard a) ≡ string (encode_of standard b) = same_some _ _ (sym (get_member-put (codes "data_base64") (string (encode_of standard a)) (direct xs)) ∙ (ap (get_member (codes "data_base64")) h ∙ get_member-put (codes "data_base64") (string (encode_of standard b)) (direct ys))) in
      ap content.Bytes (same_encoded a b x y (same_string _ _ texts))

-- ---- events

pub named_attributes : (e : EventValue) → IsEvent e → AreOthers e.attributes
named_attributes e h = names_given e.attributes (names_pass (given_all e.attributes) (no_member_fault (parts_of e) h.faultless))

pub bytes_held : (c : Content) → IsCarried c → HoldsBytes c
bytes_held content.Nothing h = tt
bytes_held (content.Tree d) h = tt
bytes_held (content.Bytes b) h = h

-- an event's members, the attributes as they stand
pub members_of-direct : (e : EventValue) → IsEvent e → members_of e ≡ with_content e.content (direct e.attributes)
members_of-direct e h = ap (with_content e.content) (with_all-direct e.attributes h.in_order)

-- events with the same object are the same
pub same_members : (e f : EventValue) → IsEvent e → IsEvent f → members_of e ≡ members_of f → e ≡ f
same_members e f p q h =
    let xs = e.attributes in
    let ys = f.attributes in
    let both : with_content e.content (direct xs) ≡ with_content f.content (direct ys) = sym (members_of-direct e p) ∙ (h ∙ members_of-direct f q) in
    let attributes : xs ≡ ys = same_direct xs ys (sym (others_of e.content xs (named_attributes e p)) ∙ (ap others both ∙ others_of f.content ys (named_attributes f q))) in
    let contents : e.content ≡ f.content = same_content xs ys (named_attributes e p) (named_attributes f q) e.content f.content (bytes_held e.content p.carried) (bytes_held f.content q.carried) both in
    ap₂ (λ a c. record { attributes = a; content = c }) attributes contents
