-- Two members put to an object, in whichever order.
use Rattle.std.proofs.Common.{◌≡◌, ℕ, List, false, bytes_eq, codes, refl, sym, ap, ◌∙◌, true≢false}
use Rattle.std.specs.declared.cmp.Ordering.{Ordering}
use Rattle.std.specs.declared.cmp.Ordering.TheVariants.{Less, Equal, Greater}
use Rattle.std.specs.Ordering.{match_ordering}
use Rattle.std.proofs.lemmas.Cmp.{nat_list_cmp_total}
use Rattle.inbox.proofs.SetLemmas.{alike_right, tied_back, turned, turned_back}
use Rattle.base64.specs.Engines.{standard}
use Rattle.base64.specs.GeneralPurpose.{encode_of}
use Rattle.serde_json.specs.Data.{Data, string, Members, no_members, member, put}
use Rattle.attributes.specs.Bytes.{byte_cmp}
use Rattle.attributes.specs.Event.{direct, with_content}
use Rattle.attributes.specs.declared.content.Content.{Content}
use Rattle.attributes.specs.declared.content.Content.TheVariants as content
use Rattle.attributes.specs.declared.scalar.Scalar.TheVariants as scalar
use Rattle.attributes.proofs.EventLemmas.{members_direct}
use Rattle.attributes.proofs.ObjectLemmas.{with_all-direct}
use Rattle.numbers.specs.Numbered.{NumberedMembers, with_sequence}
use Rattle.numbers.proofs.LengthLemmas.{direct_with}
use Rattle.numbers.proofs.NumberedLemmas.{in_order, tie_tells}

abbrev key : List ℕ
key = codes "sequence"

pub put_swap : (k l : List ℕ) (d e : Data) (ms : Members) → bytes_eq k l ≡ false → put k d (put l e ms) ≡ put l e (put k d ms)
put_swap k l d e no_members apart = by (byte_cmp k l) refl
  where
    by : (r : Ordering) → byte_cmp k l ≡ r → put k d (member l e no_members) ≡ put l e (member k d no_members)
    by Less h = let g = turned nat_list_cmp_total k l h in rw (h, g) refl
    by Equal h = absurd (true≢false (sym (tie_tells k l Equal h) ∙ apart))
    by Greater h = let g = turned_back nat_list_cmp_total k l h in rw (h, g) refl
put_swap k l d e (member m x ms) apart = by (byte_cmp k m) (byte_cmp l m) (byte_cmp k l) refl refl refl (put_swap k l d e ms apart)
  where
    by : (a b r : Ordering) → byte_cmp k m ≡ a → byte_cmp l m ≡ b → byte_cmp k l ≡ r → put k d (put l e ms) ≡ put l e (put k d ms)
        → put k d (match_ordering b (member l e (member m x ms)) (member m e ms) (member m x (put l e ms))) ≡ put l e (match_ordering a (member k d (member m x ms)) (member m d ms) (member m x (put k d ms)))
    by Less Less Less p q h f = let g = turned nat_list_cmp_total k l h in rw (h, g, q) refl
    by Less Less Greater p q h f = let g = turned_back nat_list_cmp_total k l h in rw (h, g, p) refl
    by Less Equal r p q h f =
        let t : byte_cmp k l ≡ Less = alike_right nat_list_cmp_total l m k q ∙ p in
        let g = turned nat_list_cmp_total k l t in rw (p, g, q) refl
    by Less Greater r p q h f =
        let t : byte_cmp k l ≡ Less = nat_list_cmp_total.trans k m l p (turned_back nat_list_cmp_total l m q) in
        let g = turned nat_list_cmp_total k l t in rw (p, g, q) refl
    by Equal Less r p q h f =
        let t : byte_cmp l k ≡ Less = alike_right nat_list_cmp_total k m l p ∙ q in
        let g = turned nat_list_cmp_total l k t in rw (q, g, p) refl
    by Greater Less r p q h f =
        let t : byte_cmp l k ≡ Less = nat_list_cmp_total.trans l m k q (turned_back nat_list_cmp_total k m p) in
        let g = turned nat_list_cmp_total l k t in rw (q, g, p) refl
    by Equal Equal r p q h f =
        let t : byte_cmp k l ≡ Equal = nat_list_cmp_total.congr k m l p ∙ tied_back nat_list_cmp_total l m q in
        absurd (true≢false (sym (tie_tells k l Equal t) ∙ apart))
    by Equal Greater r p q h f = rw (p, q) refl
    by Greater Equal r p q h f = rw (p, q) refl
    by Greater Greater r p q h f = rw (p, q) (ap (λ l. member m x l) f)
    by Less Less Equal p q h f = absurd (true≢false (sym (tie_tells k l Equal h) ∙ apart))

content_swap : (c : Content) (d : Data) (ms : Members) → with_content c (put key d ms) ≡ put key d (with_content c ms)
content_swap content.Nothing d ms = refl
content_swap (content.Tree x) d ms = put_swap (codes "data") key x d ms refl
content_swap (content.Bytes b) d ms = put_swap (codes "data_base64") key (string (encode_of standard b)) d ms refl

pub numbered_members : NumberedMembers
numbered_members e t h =
    ap (with_content e.content) (with_all-direct (with_sequence t e).attributes (in_order e t h) ∙ direct_with key (scalar.Words t) e.attributes)
    ∙ content_swap e.content (string t) (direct e.attributes)
    ∙ ap (put key (string t)) (sym (members_direct e h))
