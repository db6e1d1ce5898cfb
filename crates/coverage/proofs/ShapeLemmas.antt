-- The shape of a JSON value, read off its items and members.
use Rattle.std.proofs.Common.{◌≡◌, ◌==◌, Bool, true, false, ◌&&◌, List, [], ◌∷◌, Some, None, length, refl, sym, ap, ap₂, ◌∙◌, arith}
use Rattle.std.specs.Prelude.{codes}
use Rattle.std.proofs.Math.Bool.{and-false}
use Rattle.std.proofs.lemmas.Bool.Decides.{nat_tests}
use Rattle.serde_json.proofs.Views.{Entry, members_len-members_view}
use Rattle.serde_json.specs.Data.{Data, null, boolean, number, string, array, object, Items, Members}
use Rattle.serde_json.specs.Find.{get, as_array, as_object}
use Rattle.serde_json.specs.View.{items_view, members_view}
use Rattle.serde_json.specs.declared.value.Value.{Value}
use Rattle.coverage.specs.SummaryShape.{block_in, block_pair, interval_in, pair_in, is_blocks, is_object_of_blocks, is_object_of_lists, is_sources, is_shaped, is_shaped_with_blocks, member_count}

pub array_of : (d : Data) (ds : Items) → Some ds ≡ as_array d → d ≡ array ds
array_of null ds h = absurd (cc)
array_of (boolean b) ds h = absurd (cc)
array_of (number n) ds h = absurd (cc)
array_of (string s) ds h = absurd (cc)
array_of (array es) ds h = cc
array_of (object ms) ds h = absurd (cc)

pub object_of : (d : Data) (ms : Members) → Some ms ≡ as_object d → d ≡ object ms
object_of null ms h = absurd (cc)
object_of (boolean b) ms h = absurd (cc)
object_of (number n) ms h = absurd (cc)
object_of (string s) ms h = absurd (cc)
object_of (array es) ms h = absurd (cc)
object_of (object ns) ms h = cc

wrong_length : (vs : List Value) → (length vs ≡ 2 → ⊥) → None ≡ pair_in (items_view vs)
wrong_length [] h = refl
wrong_length (x ∷ []) h = refl
wrong_length (x ∷ y ∷ []) h = absurd (h refl)
wrong_length (x ∷ y ∷ z ∷ vs) h = refl

pub pair-wrong_length : (d : Data) (vs : List Value) → Some (items_view vs) ≡ as_array d → (length vs ≡ 2 → ⊥) → None ≡ interval_in d
pair-wrong_length d vs h wrong = wrong_length vs wrong ∙ sym (ap interval_in (array_of d (items_view vs) h))

count_of : (d : Data) (es : List Entry) → Some (members_view es) ≡ as_object d → member_count d ≡ length es
count_of d es h = ap member_count (object_of d (members_view es) h) ∙ members_len-members_view es

pub not_two : (d : Data) (es : List Entry) → Some (members_view es) ≡ as_object d → (length es ≡ 2 → ⊥) → false ≡ is_shaped d
not_two d es h wrong =
    let count = count_of d es h in
    let test : (member_count d == 2) ≡ false = grind (arith, nat_tests) in
    sym (ap (λ b. b && is_sources (get (codes "sources") d)) test)

pub two_with_sources : (d : Data) (es : List Entry) (sources : Data) → Some (members_view es) ≡ as_object d → length es ≡ 2 → Some sources ≡ get (codes "sources") d → is_object_of_lists sources ≡ is_shaped d
two_with_sources d es sources h two found =
    let count = count_of d es h in
    let test : (member_count d == 2) ≡ true = grind (arith, nat_tests) in
    ap is_sources found ∙ sym (ap (λ b. b && is_sources (get (codes "sources") d)) test)

-- ---- blocks
other_length : (vs : List Value) → (length vs ≡ 2 → ⊥) → None ≡ block_pair (items_view vs)
other_length [] h = refl
other_length (x ∷ []) h = refl
other_length (x ∷ y ∷ []) h = absurd (h refl)
other_length (x ∷ y ∷ z ∷ vs) h = refl

pub block-wrong_length : (d : Data) (vs : List Value) → Some (items_view vs) ≡ as_array d → (length vs ≡ 2 → ⊥) → None ≡ block_in d
block-wrong_length d vs h wrong = other_length vs wrong ∙ sym (ap block_in (array_of d (items_view vs) h))

pub not_three : (d : Data) (es : List Entry) → Some (members_view es) ≡ as_object d → (length es ≡ 3 → ⊥) → false ≡ is_shaped_with_blocks d
not_three d es h wrong =
    let count = count_of d es h in
    let test : (member_count d == 3) ≡ false = grind (arith, nat_tests) in
    sym (ap (λ b. b && (is_blocks (get (codes "blocks") d) && is_sources (get (codes "sources") d))) test)

three : (d : Data) (es : List Entry) → Some (members_view es) ≡ as_object d → length es ≡ 3 → is_shaped_with_blocks d ≡ (is_blocks (get (codes "blocks") d) && is_sources (get (codes "sources") d))
three d es h is =
    let count = count_of d es h in
    let test : (member_count d == 3) ≡ true = grind (arith, nat_tests) in
    ap (λ b. b && (is_blocks (get (codes "blocks") d) && is_sources (get (codes "sources") d))) test

pub three_with_both : (d : Data) (es : List Entry) (blocks sources : Data) → Some (members_view es) ≡ as_object d → length es ≡ 3 → Some blocks ≡ get (codes "blocks") d → Some sources ≡ get (codes "sources") d
    → (is_object_of_blocks blocks && is_object_of_lists sources) ≡ is_shaped_with_blocks d
three_with_both d es blocks sources h is found there = ap₂ (λ a b. is_blocks a && is_sources b) found there ∙ sym (three d es h is)

pub three_without_blocks : (d : Data) (es : List Entry) → Some (members_view es) ≡ as_object d → length es ≡ 3 → None ≡ get (codes "blocks") d → false ≡ is_shaped_with_blocks d
three_without_blocks d es h is none = ap (λ o. is_blocks o && is_sources (get (codes "sources") d)) none ∙ sym (three d es h is)

pub three_without_sources : (d : Data) (es : List Entry) → Some (members_view es) ≡ as_object d → length es ≡ 3 → None ≡ get (codes "sources") d → false ≡ is_shaped_with_blocks d
three_without_sources d es h is none =
    sym (and-false (is_blocks (get (codes "blocks") d))) ∙ ap (λ o. is_blocks (get (codes "blocks") d) && is_sources o) none ∙ sym (three d es h is)

pub and_first : (a b : Bool) → false ≡ a → a ≡ (a && b)
and_first a b h = sym h ∙ ap (λ x. x && b) h
