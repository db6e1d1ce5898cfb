-- Members that go to the end of an object.
use Rattle.std.proofs.Common.{◌≡◌, ◌∙◌, ℕ, List, [], ◌∷◌, refl, ap, true, sym}
use Rattle.std.specs.Ordering.{match_ordering, ordering_reverse, is_eq}
use Rattle.std.specs.declared.cmp.Ordering.{Ordering}
use Rattle.std.proofs.lemmas.Map.Text.{is_eq-slice_cmp}
use Rattle.std.proofs.lemmas.Slice.Eq.{bytes_eq-Decides}
use Rattle.std.specs.List.{AllByRecursion}
use Rattle.std.specs.declared.cmp.Ordering.TheVariants.{Less, Equal, Greater}
use Rattle.std.proofs.lemmas.Cmp.{nat_list_cmp_total}
use Rattle.serde_json.specs.Data.{Data, Members, no_members, member, put}
use Rattle.attributes.specs.Bytes.{byte_cmp}
use Rattle.attributes.specs.Exact.{member_names}
use Rattle.attributes.specs.steps.ObjectText.{then_members}

pub then_members-no_members : (ms : Members) → then_members ms no_members ≡ ms
then_members-no_members no_members = refl
then_members-no_members (member k d ms) = ap (member k d) (then_members-no_members ms)

pub then_members-assoc : (ls ms ns : Members) → then_members (then_members ls ms) ns ≡ then_members ls (then_members ms ns)
then_members-assoc no_members ms ns = refl
then_members-assoc (member k d ls) ms ns = ap (member k d) (then_members-assoc ls ms ns)

-- every key is below the name
abbrev pub AreBelow : Members → List ℕ → Type 0
AreBelow ms name = AllByRecursion (λ l. byte_cmp l name ≡ Less) (member_names ms)

pub AreBelow-more : (ms : Members) (k : List ℕ) (d : Data) (name : List ℕ) → AreBelow ms name → byte_cmp k name ≡ Less → AreBelow (then_members ms (member k d no_members)) name
AreBelow-more no_members k d name h less = (less, tt)
AreBelow-more (member l e ms) k d name h less = (h.0, AreBelow-more ms k d name h.1 less)

greater : (k l : List ℕ) → byte_cmp l k ≡ Less → byte_cmp k l ≡ Greater
greater k l h = nat_list_cmp_total.antisymm k l ∙ ap ordering_reverse h

-- a member above all others goes last
pub put-last : (ms : Members) (k : List ℕ) (d : Data) → AreBelow ms k → put k d ms ≡ then_members ms (member k d no_members)
put-last no_members k d h = refl
put-last (member l e ms) k d h =
    ap (λ o. match_ordering o (member k d (member l e ms)) (member l d ms) (member l e (put k d ms))) (greater k l h.0)
    ∙ ap (member l e) (put-last ms k d h.1)

-- every key is below each of the names
abbrev pub AreBelowAll : Members → List (List ℕ) → Type 0
AreBelowAll ms names = AllByRecursion (λ name. AreBelow ms name) names

pub AreBelowAll-no_members : (names : List (List ℕ)) → AreBelowAll no_members names
AreBelowAll-no_members [] = tt
AreBelowAll-no_members (n ∷ names) = (tt, AreBelowAll-no_members names)

pub AreBelowAll-more : (ms : Members) (k : List ℕ) (d : Data) (names : List (List ℕ)) → AreBelowAll ms names → AllByRecursion (λ name. byte_cmp k name ≡ Less) names → AreBelowAll (then_members ms (member k d no_members)) names
AreBelowAll-more ms k d [] h less = tt
AreBelowAll-more ms k d (n ∷ names) h less = (AreBelow-more ms k d n h.0 less.0, AreBelowAll-more ms k d names h.1 less.1)

-- ---- texts as they are compared

pub text_equal : (xs ys : List ℕ) → byte_cmp xs ys ≡ Equal → xs ≡ ys
text_equal xs ys h = (bytes_eq-Decides xs ys).0 (sym (is_eq-slice_cmp xs ys) ∙ ap is_eq h)

from_is_eq : (o : Ordering) → is_eq o ≡ true → o ≡ Equal
from_is_eq Less h = cc
from_is_eq Equal h = refl
from_is_eq Greater h = cc

pub equal_text : (xs ys : List ℕ) → xs ≡ ys → byte_cmp xs ys ≡ Equal
equal_text xs ys h = from_is_eq (byte_cmp xs ys) (is_eq-slice_cmp xs ys ∙ (bytes_eq-Decides xs ys).1 h)

pub by_order : (P : Members → Type 0) (o : Ordering) (a b c : Members) → P a → P b → P c → P (match_ordering o a b c)
by_order P Less a b c x y z = x
by_order P Equal a b c x y z = y
by_order P Greater a b c x y z = z
