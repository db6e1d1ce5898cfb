-- Sets of sequence numbers as ascending, disjoint, not adjacent intervals.
pub use Rattle.attributes.specs.Sequence.{max_sequence}
use Rattle.std.specs.Prelude.{◌≡◌, ℕ, ◌+◌, ◌-◌, ◌<◌, ◌≤◌, Bool, true, false, ◌&&◌, ◌||◌, nat_le, List, [], ◌∷◌, length, slice_index_or, sum_by, IsTrue, ◌↔◌}

-- the first and the last number of an interval
abbrev pub Interval : Type 0
Interval = ℕ × ℕ

-- the number lies in the interval
unfoldable pub in_interval : Interval → ℕ → Bool
in_interval p n = nat_le p.0 n && nat_le n p.1

-- the number lies in one of the intervals
unfoldable pub holds : List Interval → ℕ → Bool
holds [] n = false
holds (p ∷ ps) n = in_interval p n || holds ps n

-- the interval at an index
abbrev pub interval_at : List Interval → ℕ → Interval
interval_at ps k = slice_index_or ps k (0, 0)

-- the interval starts at the number or later, has a member, and ends at a sequence number
abbrev pub fits_from : ℕ → Interval → Bool
fits_from n p = nat_le n p.0 && (nat_le p.0 p.1 && nat_le p.1 max_sequence)

-- each interval fits, the first from the number on and each other after a gap
unfoldable pub rises_from : ℕ → List Interval → Bool
rises_from n [] = true
rises_from n (p ∷ ps) = fits_from n p && rises_from (p.1 + 2) ps

-- each interval has 1 <= first <= last <= 2^63 - 1, and last + 1 < the first of the next
abbrev pub IsCanonical : List Interval → Type 0
IsCanonical ps = rises_from 1 ps ≡ true

-- the list of intervals is canonical and holds the numbers of which the fact is true
abbrev pub Forms : List Interval → (ℕ → Type 0) → Type 0
Forms ps X = IsCanonical ps × ((n : ℕ) → IsTrue (holds ps n) ↔ X n)

-- how many numbers an interval holds
abbrev pub width : Interval → ℕ
width p = p.1 - p.0 + 1

-- how many numbers the intervals hold
abbrev pub size_of : List Interval → ℕ
size_of ps = sum_by width ps

-- the intervals hold the number, and no greater one
abbrev pub IsGreatest : List Interval → ℕ → Type 0
IsGreatest ps g = (holds ps g ≡ true) × ((n : ℕ) → holds ps n ≡ true → n ≤ g)

-- the number is a sequence number that the intervals don't hold, and they hold some greater number
abbrev pub IsMissing : List Interval → ℕ → Type 0
IsMissing ps n = (1 ≤ n) × (holds ps n ≡ false) × ((m : ℕ) × ((n < m) × (holds ps m ≡ true)))

-- the interval stands in the list, starts at the number or later, and each interval before it
-- starts earlier
abbrev pub IsNextSpan : List Interval → ℕ → Interval → Type 0
IsNextSpan ps from p =
    (from ≤ p.0) × ((k : ℕ) × ((k < length ps) × (interval_at ps k ≡ p)
    × ((i : ℕ) → i < k → (interval_at ps i).0 < from)))

-- every interval starts before the number
abbrev pub AllStartBefore : List Interval → ℕ → Type 0
AllStartBefore ps from = (k : ℕ) → k < length ps → (interval_at ps k).0 < from

-- every number that the second list of intervals holds is held by the first
abbrev pub HoldsAll : List Interval → List Interval → Type 0
HoldsAll ps qs = (n : ℕ) → holds qs n ≡ true → holds ps n ≡ true
