-- Where in data the first number is that isn't whole or doesn't fit 64 bits: a JSON pointer (RFC 6901).
use Rattle.std.specs.Prelude.{ℕ, suc, List, [], ◌∷◌, ◌++◌, ◌==◌, if◌then◌else◌, Option, None, Some, option_map}
use Rattle.std.specs.Char.{encode_utf8}
use Rattle.std.specs.Fmt.{decimal}
use Rattle.std.specs.List.{flat_map}
use Rattle.std.specs.Option.{option_or}
use Rattle.std.specs.Str.{chars}
use Rattle.serde_json.specs.Data.{Data, null, boolean, number, string, array, object, Items, no_items, item, Members, no_members, member}
use Rattle.serde_json.specs.Find.{is_float}

-- in a fault line's pointer, a character of a name: `~` as `~0`, `/` as `~1`, any other as it is
abbrev pub key_char : ℕ → List ℕ
key_char c = if c == 126 then 126 ∷ 48 ∷ [] else if c == 47 then 126 ∷ 49 ∷ [] else encode_utf8 c

-- a name within the JSON pointer of a fault's line
abbrev pub name_in_pointer : List ℕ → List ℕ
name_in_pointer name = flat_map key_char (chars name)

-- the place in a value, for a fault line's JSON pointer: of an array's items the first that has
-- one, of an object's members the first in the order of their names
abbrev mutual
  pub place : Data → Option (List ℕ)
  place null = None
  place (boolean b) = None
  place (number n) = if is_float n then Some [] else None
  place (string s) = None
  place (array ds) = items_place 0 ds
  place (object ms) = members_place ms

  -- of items of which the first has this index
  pub items_place : ℕ → Items → Option (List ℕ)
  items_place i no_items = None
  items_place i (item d ds) = option_or (option_map (λ rest. 47 ∷ (decimal i ++ rest)) (place d)) (items_place (suc i) ds)

  pub members_place : Members → Option (List ℕ)
  members_place no_members = None
  members_place (member name d ms) = option_or (option_map (λ rest. 47 ∷ (name_in_pointer name ++ rest)) (place d)) (members_place ms)
