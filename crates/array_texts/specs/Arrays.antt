-- Two texts of arrays, joined at a comma (RFC 8259, section 5).
use Rattle.std.specs.Prelude.{◌≡◌, ℕ, List, [], ◌∷◌, ◌++◌, Some, ⊤}
use Rattle.serde_json.specs.Data.{Items, no_items, item, array}
use Rattle.serde_json.specs.Read.{read}

-- the items of two JSON arrays, one behind the other
abbrev pub append_items : Items → Items → Items
append_items no_items ys = ys
append_items (item d xs) ys = item d (append_items xs ys)

-- the JSON array has one item at least
abbrev pub HasItems : Items → Type 0
HasItems no_items = ⊥
HasItems (item d ds) = ⊤

-- a front that is a JSON array's text once it is closed, a comma, and a rest that is one once it is
-- opened, neither of them empty, read as the array of both
abbrev pub JoinTexts : Type 0
JoinTexts = (f t : List ℕ) (xs ys : Items) → read (f ++ 93 ∷ []) ≡ Some (array xs)
    → read (91 ∷ t) ≡ Some (array ys) → HasItems xs → HasItems ys
    → read (f ++ 44 ∷ t) ≡ Some (array (append_items xs ys))
