-- Two lists by source joined, each source whole from one of them.
use Rattle.std.specs.Prelude.{◌≡◌, ℕ, List}
use Rattle.std.specs.Option.{option_or}
use Rattle.std.specs.Map.{lookup}
use Rattle.std.specs.BTreeMap.{is_at}
use Rattle.coverage.specs.Numbers.{byte_cmp}

-- at each source stands what the one summary has there, or else what the other has
abbrev pub IsJoinOf : {X : Type 0} → List (List ℕ × X) → List (List ℕ × X) → List (List ℕ × X)
    → Type 0
IsJoinOf both own other =
    (source : List ℕ) → lookup (is_at (byte_cmp source)) both
    ≡ option_or (lookup (is_at (byte_cmp source)) own) (lookup (is_at (byte_cmp source)) other)
