-- An object without a member.
use Rattle.std.proofs.Common.{◌≡◌, ◌||◌, ℕ, List, [], ◌∷◌, Bool, true, false, cond, Option, Some, None, is_some, option_map, Ordering, Less, Equal, Greater, is_eq, nat_cmp, string_bytes, codes, refl, sym, ap, ◌∙◌}
use Rattle.std.specs.Cmp.Lexicographic.{slice_cmp}
use Rattle.std.specs.Ordering.{match_ordering}
use Rattle.std.specs.BTreeMap.{is_at}
use Rattle.std.specs.Map.{remove_entry}
use Rattle.serde_json.specs.Data.{Data, Members, no_members, member, object}
use Rattle.serde_json.specs.Find.{get_member}
use Rattle.serde_json.specs.View.{members_view, view}
use Rattle.serde_json.specs.Written.{has_float, members_have_float}
use Rattle.serde_json.specs.declared.value.Value.{Value}
use Rattle.serde_json.proofs.Views.{Entry}
use Rattle.attributes.proofs.TreeLemmas.{has_float-put}
use Rattle.numbers.specs.Aside.{IsRenamed, without}

cut : (o : Ordering) (e : Entry) (es rest : List Entry) (ms : Members) → members_view rest ≡ ms → members_view (cond (is_eq o) es (e ∷ rest)) ≡ match_ordering o (member (string_bytes e.0) (view e.1) ms) (members_view es) (member (string_bytes e.0) (view e.1) ms)
cut Less e es rest ms is = ap (member (string_bytes e.0) (view e.1)) is
cut Equal e es rest ms is = refl
cut Greater e es rest ms is = ap (member (string_bytes e.0) (view e.1)) is

-- an entry that is removed is a member less
pub members_view-remove : (name : List ℕ) (es : List Entry) → members_view (remove_entry (is_at (λ k. slice_cmp nat_cmp name (string_bytes k))) es) ≡ without name (members_view es)
members_view-remove name [] = refl
members_view-remove name (e ∷ es) = cut (slice_cmp nat_cmp name (string_bytes e.0)) e es _ _ (members_view-remove name es)

pub no_view : (o : Option Value) → is_some o ≡ false → option_map view o ≡ None
no_view None h = refl
no_view (Some v) h = cc

left_false : (a b : Bool) → (a || b) ≡ false → a ≡ false
left_false true b h = cc
left_false false b h = refl

right_false : (a b : Bool) → (a || b) ≡ false → b ≡ false
right_false true b h = cc
right_false false b h = h

both_false : (a b : Bool) → a ≡ false → b ≡ false → (a || b) ≡ false
both_false a b h g = rw (h, g) refl

-- what is left has no more floats
float_at : (o : Ordering) (l : List ℕ) (d : Data) (ms rest : Members) → members_have_float (member l d ms) ≡ false → members_have_float rest ≡ false → members_have_float (match_ordering o (member l d rest) ms (member l d rest)) ≡ false
float_at Less l d ms rest h g = both_false (has_float d) (members_have_float rest) (left_false (has_float d) (members_have_float ms) h) g
float_at Equal l d ms rest h g = right_false (has_float d) (members_have_float ms) h
float_at Greater l d ms rest h g = both_false (has_float d) (members_have_float rest) (left_false (has_float d) (members_have_float ms) h) g

pub float_without : (k : List ℕ) (ms : Members) → members_have_float ms ≡ false → members_have_float (without k ms) ≡ false
float_without k no_members h = refl
float_without k (member l d ms) h = float_at (slice_cmp nat_cmp k l) l d ms (without k ms) h (float_without k ms (right_false (has_float d) (members_have_float ms) h))

found_at : (o : Ordering) (d v : Data) (rest : Option Data) → match_ordering o rest (Some d) rest ≡ Some v → has_float d ≡ false → (rest ≡ Some v → has_float v ≡ false) → has_float v ≡ false
found_at Less d v rest h g f = f h
found_at Equal d v rest h g f = let same : d ≡ v = cc in ap has_float (sym same) ∙ g
found_at Greater d v rest h g f = f h

float_of : (k : List ℕ) (ms : Members) (v : Data) → get_member k ms ≡ Some v → members_have_float ms ≡ false → has_float v ≡ false
float_of k no_members v h g = cc
float_of k (member l d ms) v h g = found_at (slice_cmp nat_cmp k l) d v (get_member k ms) h (left_false (has_float d) (members_have_float ms) g) (λ m. float_of k ms v m (right_false (has_float d) (members_have_float ms) g))

pub float_renamed : (name : List ℕ) (old new : Members) → IsRenamed name old new → members_have_float old ≡ false → has_float (object new) ≡ false
float_renamed name old new r h =
    ap members_have_float r.is ∙ has_float-put name r.value (without (codes "sequence") old) (float_of (codes "sequence") old r.value r.had h) (float_without (codes "sequence") old h)
