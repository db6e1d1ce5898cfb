-- Setting the values of a map's entries, from the last one on, gives the values that its object spells.
use Rattle.std.proofs.Common.{◌≡◌, List, [], ◌∷◌, map, ℕ, Option, Some, None, String, Global, string_bytes, string_cmp, Less, refl, ap, ◌∙◌}
use Rattle.std.specs.List.{AllByRecursion}
use Rattle.std.specs.List.Sorted.{IsStrictlySortedBy}
use Rattle.std.specs.Map.{keys_of}
use Rattle.serde_json.specs.View.{view, members_view}
use Rattle.serde_json.specs.declared.value.Value.{Value}
use Rattle.attributes.specs.Bytes.{byte_cmp}
use Rattle.attributes.specs.Members.{with_value}
use Rattle.attributes.specs.declared.scalar.Given.{Given}
use Rattle.event_json.specs.Spelling.{given_in, with_given, spelled}

-- values by name
abbrev pub Offer : Type 0
Offer = List (List ℕ × Given)

abbrev pub Entry : Type 0
Entry = String Global × Value

-- the parts, with what is offered at the name set
abbrev pub set_one : List ℕ → Option Given → Offer → Offer
set_one name None p = p
set_one name (Some g) p = with_value name g p

-- the parts that have those of the entries, set from the last one on
abbrev pub set_all : List Entry → Offer
set_all [] = []
set_all (m ∷ ms) = set_one (string_bytes m.0) (given_in (view m.1)) (set_all ms)

-- ---- names in order

abbrev IsBelow : List ℕ → List Entry → Type 0
IsBelow k ms = AllByRecursion (λ y. byte_cmp k y ≡ Less) (map (λ m. string_bytes m.0) ms)

below_names : (k : String Global) (ms : List Entry) → AllByRecursion (λ y. string_cmp k y ≡ Less) (keys_of ms) → IsBelow (string_bytes k) ms
below_names k [] h = tt
below_names k (m ∷ ms) h = (h.0, below_names k ms h.1)

before_next : (o : Option Given) (k : List ℕ) (g : Given) (n : List ℕ) (rest : Offer) → byte_cmp k n ≡ Less → with_value k g rest ≡ (k, g) ∷ rest → with_value k g (with_given n o rest) ≡ (k, g) ∷ with_given n o rest
before_next None k g n rest below h = h
before_next (Some x) k g n rest below h = rw below refl

-- a name that is below those behind it goes first
set_first : (k : List ℕ) (g : Given) (ms : List Entry) → IsBelow k ms → with_value k g (spelled (members_view ms)) ≡ (k, g) ∷ spelled (members_view ms)
set_first k g [] h = refl
set_first k g (m ∷ ms) h = before_next (given_in (view m.1)) k g (string_bytes m.0) (spelled (members_view ms)) h.0 (set_first k g ms h.1)

set_next : (o : Option Given) (k : List ℕ) (ms : List Entry) → IsBelow k ms → set_one k o (spelled (members_view ms)) ≡ with_given k o (spelled (members_view ms))
set_next None k ms h = refl
set_next (Some g) k ms h = set_first k g ms h

pub set_all-spelled : (ms : List Entry) → IsStrictlySortedBy string_cmp (keys_of ms) → set_all ms ≡ spelled (members_view ms)
unfolding IsStrictlySortedBy
set_all-spelled [] h = refl
set_all-spelled (m ∷ ms) h =
    ap (set_one (string_bytes m.0) (given_in (view m.1))) (set_all-spelled ms h.1)
    ∙ set_next (given_in (view m.1)) (string_bytes m.0) ms (below_names m.0 ms h.0)
