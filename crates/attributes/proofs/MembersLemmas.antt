-- A map's entries as members by name.
use Rattle.std.proofs.Common.{◌≡◌, ◌∙◌, ℕ, Bool, ◌&&◌, List, [], ◌∷◌, bytes_eq, Some, cond, refl, ap, String, string_bytes, string_cmp}
use Rattle.std.specs.Ordering.{match_ordering}
use Rattle.std.specs.List.{list_all, AllByRecursion}
use Rattle.std.specs.List.Sorted.{IsStrictlySortedBy}
use Rattle.std.specs.Map.{lookup, keys_of, values_of}
use Rattle.std.specs.BTreeMap.{is_at, insert_entry}
use Rattle.std.specs.declared.alloc.Global.{Global}
use Rattle.std.specs.declared.cmp.Ordering.{Ordering}
use Rattle.std.specs.declared.cmp.Ordering.TheVariants.{Less, Equal, Greater}
use Rattle.std.proofs.lemmas.Map.Text.{is_eq-slice_cmp}
use Rattle.attributes.specs.Bytes.{byte_cmp}
use Rattle.attributes.specs.Members.{named, value_at, with_value, AreNamesInOrder}

pub value_at-named : {X : Type 0} → (name : List ℕ) (es : List (String Global × X)) → lookup (is_at (λ (k : String Global). byte_cmp name (string_bytes k))) es ≡ value_at name (named es)
value_at-named name [] = refl
value_at-named name (e ∷ es) =
    ap (λ b. cond b (Some e.1) (lookup (is_at (λ (k : String Global). byte_cmp name (string_bytes k))) es)) (is_eq-slice_cmp name (string_bytes e.0))
    ∙ ap (λ o. cond (bytes_eq name (string_bytes e.0)) (Some e.1) o) (value_at-named name es)

pub list_all-named_keys : {X : Type 0} → (p : List ℕ → Bool) (es : List (String Global × X)) → list_all (λ (k : String Global). p (string_bytes k)) (keys_of es) ≡ list_all (λ m. p m.0) (named es)
list_all-named_keys p [] = refl
list_all-named_keys p (e ∷ es) = ap (λ b. p (string_bytes e.0) && b) (list_all-named_keys p es)

pub list_all-named_values : {X : Type 0} → (p : X → Bool) (es : List (String Global × X)) → list_all p (values_of es) ≡ list_all (λ m. p m.1) (named es)
list_all-named_values p [] = refl
list_all-named_values p (e ∷ es) = ap (λ b. p e.1 && b) (list_all-named_values p es)

insert_by : {X : Type 0} → (o : Ordering) (k : String Global) (x : X) (e : String Global × X) (es rest : List (String Global × X)) → named (match_ordering o ((k, x) ∷ e ∷ es) ((e.0, x) ∷ es) (e ∷ rest)) ≡ match_ordering o ((string_bytes k, x) ∷ (string_bytes e.0, e.1) ∷ named es) ((string_bytes e.0, x) ∷ named es) ((string_bytes e.0, e.1) ∷ named rest)
insert_by Less k x e es rest = refl
insert_by Equal k x e es rest = refl
insert_by Greater k x e es rest = refl

pub named-insert_entry : {X : Type 0} → (es : List (String Global × X)) (k : String Global) (x : X) → named (insert_entry string_cmp es k x) ≡ with_value (string_bytes k) x (named es)
named-insert_entry [] k x = refl
named-insert_entry (e ∷ es) k x =
    insert_by (byte_cmp (string_bytes k) (string_bytes e.0)) k x e es (insert_entry string_cmp es k x)
    ∙ ap (λ r. match_ordering (byte_cmp (string_bytes k) (string_bytes e.0)) ((string_bytes k, x) ∷ (string_bytes e.0, e.1) ∷ named es) ((string_bytes e.0, x) ∷ named es) ((string_bytes e.0, e.1) ∷ r)) (named-insert_entry es k x)

above : {X : Type 0} → (k : String Global) (es : List (String Global × X)) → AllByRecursion (λ y. string_cmp k y ≡ Less) (keys_of es) → AllByRecursion (λ n. byte_cmp (string_bytes k) n ≡ Less) (keys_of (named es))
above k [] h = tt
above k (e ∷ es) h = (h.0, above k es h.1)

-- entries in the order of a map are members in order
pub InOrder-named : {X : Type 0} → (es : List (String Global × X)) → IsStrictlySortedBy string_cmp (keys_of es) → AreNamesInOrder (named es)
unfolding IsStrictlySortedBy
InOrder-named [] h = tt
InOrder-named (e ∷ es) h = (above e.0 es h.0, InOrder-named es h.1)
