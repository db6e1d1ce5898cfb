-- What a JSON text reads as: numbers in range, and each object's names once and in order.
use Rattle.std.proofs.Common.{◌≡◌, ◌∙◌, ◌<◌, ◌≤◌, ◌^◌, ℕ, zero, suc, pos, negsuc, Bool, true, false, ◌&&◌, List, Option, Some, None, refl, ap, subst, arith}
use Rattle.std.specs.Prelude.{if◌then◌else◌, option_map, option_and_then, nat_lt, nat_le, Float, ⊤, drop, slice_index, ◌==◌}
use Rattle.std.specs.Float.{float_is_finite, binary64}
use Rattle.std.specs.Ordering.{match_ordering, ordering_reverse}
use Rattle.std.specs.List.{AllByRecursion}
use Rattle.std.specs.List.Sorted.{IsStrictlySortedBy}
use Rattle.std.specs.declared.cmp.Ordering.{Ordering}
use Rattle.std.specs.declared.cmp.Ordering.TheVariants.{Less, Equal, Greater}
use Rattle.std.proofs.lemmas.Bool.Decides.{nat_tests}
use Rattle.std.proofs.lemmas.Cmp.{nat_list_cmp_total}
use Rattle.fast_float.specs.Text.{minus, Parts, scan, digits_of, nearest, with_sign}
use Rattle.json.specs.Json as json
use Rattle.json.specs.Lex.{tokens}
use Rattle.json.specs.Token.{Token}
use Rattle.serde_json.specs.Data.{Num, unsigned, negative, float, Data, null, boolean, number, string, array, object, Items, no_items, item, Members, no_members, member, put}
use Rattle.serde_json.specs.Read.{is_integer, float_of, number_from, number_of, of_json, of_items, of_members, max_depth, read}
use Rattle.serde_json.specs.Written.{has_float, items_have_float, members_have_float}
use Rattle.attributes.specs.Bytes.{byte_cmp}
use Rattle.attributes.specs.Exact.{IsWholeNumber, member_names, KeysAscend, IsExact, ItemsAreExact, MembersAreExact}
use Rattle.attributes.proofs.OptionLemmas.{same_some}
use Rattle.attributes.proofs.BoolLemmas.{and_left, and_right, or_left, or_right}

-- a whole number in range, or a float
abbrev IsInRange : Num → Type 0
IsInRange (unsigned n) = n < 2 ^ 64
IsInRange (negative (pos n)) = ⊥
IsInRange (negative (negsuc n)) = n < 2 ^ 63
IsInRange (float x) = ⊤

-- numbers in range, and each object's names once and in order
abbrev mutual
  pub IsTidy : Data → Type 0
  IsTidy null = ⊤
  IsTidy (boolean b) = ⊤
  IsTidy (number n) = IsInRange n
  IsTidy (string s) = ⊤
  IsTidy (array ds) = ItemsAreTidy ds
  IsTidy (object ms) = KeysAscend ms × MembersAreTidy ms

  pub ItemsAreTidy : Items → Type 0
  ItemsAreTidy no_items = ⊤
  ItemsAreTidy (item d ds) = IsTidy d × ItemsAreTidy ds

  pub MembersAreTidy : Members → Type 0
  MembersAreTidy no_members = ⊤
  MembersAreTidy (member k d ms) = IsTidy d × MembersAreTidy ms

-- ---- numbers

no_some : {A : Type 0} (y : A) → None ≡ Some y → ⊥
no_some y h = cc

from_float : (b : Bool) (x : Float) (n : Num) → (if b then Some (float x) else None) ≡ Some n → IsInRange n
from_float true x n h = subst IsInRange (same_some (float x) n h) tt
from_float false x n h = absurd (no_some n h)

if_in_range : (b : Bool) (m n : Num) (rest : Option Num) → (b ≡ true → IsInRange m) → (rest ≡ Some n → IsInRange n) → (if b then Some m else rest) ≡ Some n → IsInRange n
if_in_range true m n rest first second h = subst IsInRange (same_some m n h) (first refl)
if_in_range false m n rest first second h = second h

from_lt : (a b : ℕ) → nat_lt a b ≡ true → a < b
from_lt a b h = grind (arith, nat_tests)

from_le : (a b : ℕ) → nat_le a b ≡ true → a ≤ b
from_le a b h = grind (arith, nat_tests)

negative_in_range : (m : ℕ) → 0 < m → m ≤ 2 ^ 63 → IsInRange (negative (with_sign true m))
negative_in_range zero some small = absurd (omega arith)
negative_in_range (suc m) some small = omega arith

number_from-in_range : (sign : Bool) (p : Parts) (n : Num) → number_from sign p ≡ Some n → IsInRange n
number_from-in_range false p n h =
    if_in_range (is_integer p && nat_lt (digits_of p) (2 ^ 64)) (unsigned (digits_of p)) n (float_of false p)
    (λ e. let small : nat_lt (digits_of p) (2 ^ 64) ≡ true = and_right (is_integer p) (nat_lt (digits_of p) (2 ^ 64)) e in grind (arith, nat_tests))
    (from_float (float_is_finite (nearest binary64 false p)) (nearest binary64 false p) n)
    h
number_from-in_range true p n h =
    if_in_range (is_integer p && nat_lt 0 (digits_of p) && nat_le (digits_of p) (2 ^ 63)) (negative (with_sign true (digits_of p))) n (float_of true p)
    (λ e.
    let all : ((is_integer p && nat_lt 0 (digits_of p)) && nat_le (digits_of p) (2 ^ 63)) ≡ true = e in
    let small : nat_le (digits_of p) (2 ^ 63) ≡ true = and_right (is_integer p && nat_lt 0 (digits_of p)) (nat_le (digits_of p) (2 ^ 63)) all in
    let some : nat_lt 0 (digits_of p) ≡ true = and_right (is_integer p) (nat_lt 0 (digits_of p)) (and_left (is_integer p && nat_lt 0 (digits_of p)) (nat_le (digits_of p) (2 ^ 63)) all) in
    negative_in_range (digits_of p) (from_lt 0 (digits_of p) some) (from_le (digits_of p) (2 ^ 63) small))
    (from_float (float_is_finite (nearest binary64 true p)) (nearest binary64 true p) n)
    h

either : (b : Bool) (x y : Option Num) (n : Num) → (x ≡ Some n → IsInRange n) → (y ≡ Some n → IsInRange n) → (if b then x else y) ≡ Some n → IsInRange n
either true x y n f g h = f h
either false x y n f g h = g h

number_of-in_range : (s : List ℕ) (n : Num) → number_of s ≡ Some n → IsInRange n
unfolding number_of
number_of-in_range s n h = either (slice_index s 0 == minus) (number_from true (scan (drop 1 s))) (number_from false (scan s)) n (number_from-in_range true (scan (drop 1 s)) n) (number_from-in_range false (scan s) n) h

-- ---- members

by_known_order : (P : Members → Type 0) (o : Ordering) (a b c : Members) → (o ≡ Less → P a) → (o ≡ Equal → P b) → (o ≡ Greater → P c) → P (match_ordering o a b c)
by_known_order P Less a b c x y z = x refl
by_known_order P Equal a b c x y z = y refl
by_known_order P Greater a b c x y z = z refl

pub MembersAreTidy-put : (k : List ℕ) (d : Data) (ms : Members) → IsTidy d → MembersAreTidy ms → MembersAreTidy (put k d ms)
MembersAreTidy-put k d no_members h m = (h, tt)
MembersAreTidy-put k d (member l e ms) h m =
    by_known_order MembersAreTidy (byte_cmp k l) (member k d (member l e ms)) (member l d ms) (member l e (put k d ms))
    (λ _. (h, (m.0, m.1))) (λ _. (h, m.1)) (λ _. (m.0, MembersAreTidy-put k d ms h m.1))

abbrev IsUnder : List ℕ → Members → Type 0
IsUnder name ms = AllByRecursion (λ l. byte_cmp name l ≡ Less) (member_names ms)

IsUnder-put : (name k : List ℕ) (d : Data) (ms : Members) → byte_cmp name k ≡ Less → IsUnder name ms → IsUnder name (put k d ms)
IsUnder-put name k d no_members less h = (less, tt)
IsUnder-put name k d (member l e ms) less h =
    by_known_order (IsUnder name) (byte_cmp k l) (member k d (member l e ms)) (member l d ms) (member l e (put k d ms))
    (λ _. (less, (h.0, h.1))) (λ _. (h.0, h.1)) (λ _. (h.0, IsUnder-put name k d ms less h.1))

IsUnder-trans : (k l : List ℕ) (ms : Members) → byte_cmp k l ≡ Less → IsUnder l ms → IsUnder k ms
IsUnder-trans k l no_members less h = tt
IsUnder-trans k l (member n d ms) less h = (nat_list_cmp_total.trans k l n less h.0, IsUnder-trans k l ms less h.1)

under_greater : (k l : List ℕ) → byte_cmp k l ≡ Greater → byte_cmp l k ≡ Less
under_greater k l h = nat_list_cmp_total.antisymm l k ∙ ap ordering_reverse h

pub KeysAscend-put : (k : List ℕ) (d : Data) (ms : Members) → KeysAscend ms → KeysAscend (put k d ms)
unfolding IsStrictlySortedBy
KeysAscend-put k d no_members h = (tt, tt)
KeysAscend-put k d (member l e ms) h =
    by_known_order KeysAscend (byte_cmp k l) (member k d (member l e ms)) (member l d ms) (member l e (put k d ms))
    (λ less. ((less, IsUnder-trans k l ms less h.0), (h.0, h.1)))
    (λ _. (h.0, h.1))
    (λ more. (IsUnder-put l k d ms (under_greater k l more) h.0, KeysAscend-put k d ms h.1))

empty_ascend : KeysAscend no_members
unfolding IsStrictlySortedBy
empty_ascend = tt

-- ---- values

map_some : {A B : Type 0} (f : A → B) (o : Option A) (y : B) → option_map f o ≡ Some y → (x : A) × (o ≡ Some x) × (f x ≡ y)
map_some f None y h = absurd (no_some y h)
map_some f (Some x) y h = (x, refl, same_some (f x) y h)

then_some : {A B : Type 0} (f : A → Option B) (o : Option A) (y : B) → option_and_then f o ≡ Some y → (x : A) × (o ≡ Some x) × (f x ≡ Some y)
then_some f None y h = absurd (no_some y h)
then_some f (Some x) y h = (x, refl, h)

mutual
  IsTidy-of_json : (j : json.Json) (d : Data) → of_json j ≡ Some d → IsTidy d
  IsTidy-of_json json.null d h = subst IsTidy (same_some null d h) tt
  IsTidy-of_json (json.boolean b) d h = subst IsTidy (same_some (boolean b) d h) tt
  IsTidy-of_json (json.number s) d h = let n = map_some number (number_of s) d h in subst IsTidy n.2 (number_of-in_range s n.0 n.1)
  IsTidy-of_json (json.string s) d h = subst IsTidy (same_some (string s) d h) tt
  IsTidy-of_json (json.array js) d h = let ds = map_some array (of_items js) d h in subst IsTidy ds.2 (ItemsAreTidy-of_items js ds.0 ds.1)
  IsTidy-of_json (json.object js) d h = let ms = map_some object (of_members js no_members) d h in subst IsTidy ms.2 (tidy-of_members js no_members ms.0 empty_ascend tt ms.1)

  ItemsAreTidy-of_items : (js : json.Items) (ds : Items) → of_items js ≡ Some ds → ItemsAreTidy ds
  ItemsAreTidy-of_items json.no_items ds h = subst ItemsAreTidy (same_some no_items ds h) tt
  ItemsAreTidy-of_items (json.item j js) ds h =
      let d = then_some (λ d. option_map (item d) (of_items js)) (of_json j) ds h in
      let rest = map_some (item d.0) (of_items js) ds d.2 in
      subst ItemsAreTidy rest.2 (IsTidy-of_json j d.0 d.1, ItemsAreTidy-of_items js rest.0 rest.1)

  tidy-of_members : (js : json.Members) (found ms : Members) → KeysAscend found → MembersAreTidy found → of_members js found ≡ Some ms → KeysAscend ms × MembersAreTidy ms
  tidy-of_members json.no_members found ms ascend tidy h = (subst KeysAscend (same_some found ms h) ascend, subst MembersAreTidy (same_some found ms h) tidy)
  tidy-of_members (json.member k j js) found ms ascend tidy h =
      let d = then_some (λ d. of_members js (put k d found)) (of_json j) ms h in
      tidy-of_members js (put k d.0 found) ms (KeysAscend-put k d.0 found ascend) (MembersAreTidy-put k d.0 found (IsTidy-of_json j d.0 d.1) tidy) d.2

-- what a text reads as is tidy
pub IsTidy-read : (t : List ℕ) (d : Data) → read t ≡ Some d → IsTidy d
IsTidy-read t d h = let j = then_some of_json (option_and_then (λ (p : json.Json × List Token). json.if_last p.0 p.1) (json.value max_depth (tokens t))) d h in IsTidy-of_json j.0 d j.2

-- ---- without a float

whole_in_range : (n : Num) → IsInRange n → has_float (number n) ≡ false → IsWholeNumber n
whole_in_range (unsigned n) h f = h
whole_in_range (negative (pos n)) h f = h
whole_in_range (negative (negsuc n)) h f = h
whole_in_range (float x) h f = cc

mutual
  pub exact_tidy : (d : Data) → IsTidy d → has_float d ≡ false → IsExact d
  exact_tidy null h f = tt
  exact_tidy (boolean b) h f = tt
  exact_tidy (number n) h f = whole_in_range n h f
  exact_tidy (string s) h f = tt
  exact_tidy (array ds) h f = exact_items ds h f
  exact_tidy (object ms) h f = (h.0, exact_members ms h.1 f)

  exact_items : (ds : Items) → ItemsAreTidy ds → items_have_float ds ≡ false → ItemsAreExact ds
  exact_items no_items h f = tt
  exact_items (item d ds) h f = (exact_tidy d h.0 (or_left (has_float d) (items_have_float ds) f), exact_items ds h.1 (or_right (has_float d) (items_have_float ds) f))

  exact_members : (ms : Members) → MembersAreTidy ms → members_have_float ms ≡ false → MembersAreExact ms
  exact_members no_members h f = tt
  exact_members (member k d ms) h f = (exact_tidy d h.0 (or_left (has_float d) (members_have_float ms) f), exact_members ms h.1 (or_right (has_float d) (members_have_float ms) f))

tidy_by : (k l : List ℕ) (d e : Data) (ms rest : Members) (o : Ordering) → (MembersAreTidy rest → IsTidy d) → MembersAreTidy (match_ordering o (member k d (member l e ms)) (member l d ms) (member l e rest)) → IsTidy d
tidy_by k l d e ms rest Less more m = m.0
tidy_by k l d e ms rest Equal more m = m.0
tidy_by k l d e ms rest Greater more m = more m.1

-- the value that was put is there
pub IsTidy-put : (k : List ℕ) (d : Data) (ms : Members) → MembersAreTidy (put k d ms) → IsTidy d
IsTidy-put k d no_members h = h.0
IsTidy-put k d (member l e ms) h = tidy_by k l d e ms (put k d ms) (byte_cmp k l) (IsTidy-put k d ms) h
