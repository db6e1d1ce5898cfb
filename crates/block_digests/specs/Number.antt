-- Which numbers the events of a set E have.
use Rattle.std.specs.Prelude.{◌≡◌, ◌==◌, ◌&&◌, ℕ, List, Bool, false, Option, Some, None, bytes_eq}
use Rattle.std.specs.List.{AllByRecursion, list_any}
use Rattle.std.specs.Option.{option_map_or}
use Rattle.attributes.specs.Event.{EventValue, source_of}
use Rattle.attributes.specs.Sequence.{number_of}

-- whether an event in a block has a number, and it is n
abbrev pub is_number : Option ℕ → ℕ → Bool
is_number None n = false
is_number (Some m) n = n == m

-- whether an event in a block has the source and the number
abbrev pub is_numbered : EventValue → List ℕ → ℕ → Bool
is_numbered e source n = bytes_eq source (source_of e) && is_number (number_of e) n

-- whether an event of a block's set E has the source and the number
abbrev pub has_number : List EventValue → List ℕ → ℕ → Bool
has_number E source n = list_any (λ e. is_numbered e source n) E

-- the number of a block's event, and 0 where it has none
abbrev pub number_or_0 : EventValue → ℕ
number_or_0 e = option_map_or (λ n. n) (number_of e) 0

-- each event for the blocks has a number
abbrev pub HaveEachNumber : List EventValue → Type 0
HaveEachNumber E = AllByRecursion (λ e. (n : ℕ) × (number_of e ≡ Some n)) E
