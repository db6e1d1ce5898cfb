-- What stands at a start among intervals, and where a list of them ends.
use Rattle.std.specs.Prelude.{◌≡◌, ℕ, ◌≤◌, List, [], ◌∷◌, Option, Some, None}
use Rattle.std.specs.Ordering.{nat_cmp}
use Rattle.std.specs.Map.{lookup}
use Rattle.std.specs.BTreeMap.{is_at}
use Rattle.coverage.specs.Intervals.{Interval}

-- of a set's intervals, the last number of the one that starts at the number
abbrev pub found : ℕ → List Interval → Option ℕ
found q ps = lookup (is_at (nat_cmp q)) ps

-- none of a set's intervals starts at the number or before
abbrev pub NoneUpTo : List Interval → ℕ → Type 0
NoneUpTo ps n = (a : ℕ) → a ≤ n → found a ps ≡ None

-- the interval is in the list and starts at the number or before, and no other starts between
abbrev pub IsLastUpTo : List Interval → ℕ → Interval → Type 0
IsLastUpTo ps n p = (found p.0 ps ≡ Some p.1) × (p.0 ≤ n)
    × ((a b : ℕ) → a ≤ n → found a ps ≡ Some b → a ≤ p.0)

-- the start of the last interval, or the number where there is none
unfoldable pub last_start_or : ℕ → List Interval → ℕ
last_start_or n [] = n
last_start_or n (p ∷ ps) = last_start_or p.0 ps

-- the last interval of a set starts no later than the number
abbrev pub StartsAtMost : List Interval → ℕ → Type 0
StartsAtMost ps n = last_start_or 0 ps ≤ n
