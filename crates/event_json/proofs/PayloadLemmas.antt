-- The payload members are taken out of a map, and the rest are the attributes.
use Rattle.std.proofs.Common.{◌≡◌, ℕ, List, [], ◌∷◌, Bool, true, false, cond, Option, Some, None, option_map, String, Global, string_bytes, refl, sym, ap, ap₂, ◌∙◌, subst}
use Rattle.std.specs.List.{AllByRecursion}
use Rattle.std.specs.Map.{lookup, remove_entry}
use Rattle.std.specs.BTreeMap.{is_at}
use Rattle.serde_json.specs.Data.{Members, member}
use Rattle.serde_json.specs.Find.{get_member}
use Rattle.serde_json.specs.View.{view, members_view}
use Rattle.serde_json.specs.declared.value.Value.{Value}
use Rattle.serde_json.proofs.Views.{view-lookup}
use Rattle.attributes.specs.Bytes.{byte_cmp}
use Rattle.attributes.specs.Event.{OfferValue}
use Rattle.attributes.specs.declared.content.Offered.{Offered}
use Rattle.attributes.specs.declared.scalar.Given.{Given}
use Rattle.event_json.specs.Payload.{tree_name, bytes_name, is_payload, attribute_members, unless_null, payload}
use Rattle.event_json.specs.Spelling.{spelled, parts_in}
use Rattle.event_json.proofs.SpellingLemmas.{Entry}
use Rattle.event_json.proofs.PayloadNameLemmas.{tree_is_payload, bytes_is_payload, is_payload-same, is_payload-neither, not_bytes-tree, is_eq-names}

-- whether a key is the name
abbrev pub is_named : List ℕ → String Global → Bool
is_named name k = is_at (λ (q : String Global). byte_cmp name (string_bytes q)) k

abbrev attributes_in : List Entry → Members
attributes_in es = attribute_members (members_view es)

-- ---- what is taken out is no attribute

attributes_next : (b : Bool) (name : List ℕ) (e : Entry) (es : List Entry) → is_named name e.0 ≡ b → is_payload name ≡ true
    → attributes_in (remove_entry (is_named name) es) ≡ attributes_in es → attributes_in (cond b es (e ∷ remove_entry (is_named name) es)) ≡ attributes_in (e ∷ es)
attributes_next true name e es is h later =
    let is_one : is_payload (string_bytes e.0) ≡ true = is_payload-same name (string_bytes e.0) h (sym (is_eq-names name (string_bytes e.0)) ∙ is) in
    sym (ap (λ b. cond b (attributes_in es) (member (string_bytes e.0) (view e.1) (attributes_in es))) is_one)
attributes_next false name e es is h later = ap (λ ms. cond (is_payload (string_bytes e.0)) ms (member (string_bytes e.0) (view e.1) ms)) later

attributes-remove : (name : List ℕ) → is_payload name ≡ true → (es : List Entry) → attributes_in (remove_entry (is_named name) es) ≡ attributes_in es
attributes-remove name h [] = refl
attributes-remove name h (e ∷ es) = attributes_next (is_named name e.0) name e es refl h (attributes-remove name h es)

-- ---- what is left has neither name

abbrev HasNo : List ℕ → List Entry → Type 0
HasNo name es = AllByRecursion (λ e. is_named name e.0 ≡ false) es

not_found : (b : Bool) (v : Value) (rest : Option Value) → cond b (Some v) rest ≡ None → (b ≡ false) × (rest ≡ None)
not_found true v rest h = absurd (cc)
not_found false v rest h = (refl, h)

HasNo-lookup : (name : List ℕ) (es : List Entry) → lookup (is_named name) es ≡ None → HasNo name es
HasNo-lookup name [] h = tt
HasNo-lookup name (e ∷ es) h =
    let both = not_found (is_named name e.0) e.1 (lookup (is_named name) es) h in
    (both.0, HasNo-lookup name es both.1)

HasNo_next : (b : Bool) (name other : List ℕ) (e : Entry) (es : List Entry) → HasNo name (e ∷ es) → HasNo name (remove_entry (is_named other) es) → HasNo name (cond b es (e ∷ remove_entry (is_named other) es))
HasNo_next true name other e es h rest = h.1
HasNo_next false name other e es h rest = (h.0, rest)

HasNo-remove : (name other : List ℕ) (es : List Entry) → HasNo name es → HasNo name (remove_entry (is_named other) es)
HasNo-remove name other [] h = tt
HasNo-remove name other (e ∷ es) h = HasNo_next (is_named other e.0) name other e es h (HasNo-remove name other es h.1)

attributes-all : (es : List Entry) → HasNo tree_name es → HasNo bytes_name es → attributes_in es ≡ members_view es
attributes-all [] h g = refl
attributes-all (e ∷ es) h g =
    let k = string_bytes e.0 in
    let neither : is_payload k ≡ false = is_payload-neither k (sym (is_eq-names tree_name k) ∙ h.0) (sym (is_eq-names bytes_name k) ∙ g.0) in
    ap (λ b. cond b (attributes_in es) (member k (view e.1) (attributes_in es))) neither ∙ ap (λ ms. member k (view e.1) ms) (attributes-all es h.1 g.1)

-- ---- the second is found as before

found_next : (b : Bool) (e : Entry) (es : List Entry) → is_named tree_name e.0 ≡ b → lookup (is_named bytes_name) (remove_entry (is_named tree_name) es) ≡ lookup (is_named bytes_name) es
    → lookup (is_named bytes_name) (cond b es (e ∷ remove_entry (is_named tree_name) es)) ≡ lookup (is_named bytes_name) (e ∷ es)
found_next true e es is rest =
    let k = string_bytes e.0 in
    let other : is_named bytes_name e.0 ≡ false = is_eq-names bytes_name k ∙ not_bytes-tree k (sym (is_eq-names tree_name k) ∙ is) in
    sym (ap (λ b. cond b (Some e.1) (lookup (is_named bytes_name) es)) other)
found_next false e es is rest = ap (λ r. cond (is_named bytes_name e.0) (Some e.1) r) rest

lookup-remove : (es : List Entry) → lookup (is_named bytes_name) (remove_entry (is_named tree_name) es) ≡ lookup (is_named bytes_name) es
lookup-remove [] = refl
lookup-remove (e ∷ es) = found_next (is_named tree_name e.0) e es refl (lookup-remove es)

-- ---- both

abbrev pub offer : List (List ℕ × Given) → Offered → OfferValue
offer members offered = record { members = members; offered = offered }

-- es without the one is first, and first without the other is last
pub offer-taken : (es first last : List Entry) (tree coded : Option Value) → first ≡ remove_entry (is_named tree_name) es → last ≡ remove_entry (is_named bytes_name) first
    → tree ≡ lookup (is_named tree_name) es → coded ≡ lookup (is_named bytes_name) first → lookup (is_named tree_name) first ≡ None → lookup (is_named bytes_name) last ≡ None
    → offer (spelled (members_view last)) (payload (unless_null (option_map view tree)) (unless_null (option_map view coded))) ≡ parts_in (members_view es)
offer-taken es first last tree coded is_first is_last is_tree is_coded no_tree no_bytes =
    let without_tree : HasNo tree_name last = subst (HasNo tree_name) (sym is_last) (HasNo-remove tree_name bytes_name first (HasNo-lookup tree_name first no_tree)) in
    let plain : attributes_in last ≡ members_view last = attributes-all last without_tree (HasNo-lookup bytes_name last no_bytes) in
    let same : attributes_in last ≡ attributes_in es =
    ap attributes_in is_last ∙ attributes-remove bytes_name bytes_is_payload first ∙ ap attributes_in is_first ∙ attributes-remove tree_name tree_is_payload es in
    let tree_at : option_map view tree ≡ get_member tree_name (members_view es) = ap (option_map view) is_tree ∙ view-lookup tree_name es in
    let coded_at : option_map view coded ≡ get_member bytes_name (members_view es) =
    ap (option_map view) (is_coded ∙ ap (lookup (is_named bytes_name)) is_first ∙ lookup-remove es) ∙ view-lookup bytes_name es in
    ap₂ offer (ap spelled (sym plain ∙ same)) (ap₂ (λ t b. payload (unless_null t) (unless_null b)) tree_at coded_at)
