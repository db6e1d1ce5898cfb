-- The parts of a set E of events: each source falls to one, by any function of it.
use Rattle.std.specs.Prelude.{◌≤◌, ◌<◌, ◌%◌, ◌==◌, ℕ, List, Bool, filter, flat_map, take}
use Rattle.std.specs.Int.{from_be_bytes, w64}
use Rattle.std.specs.List.{range_with_len}
use Rattle.sha2.specs.Sha256.{sha256}
use Rattle.attributes.specs.Event.{EventValue, source_of}

-- whether a source falls to part i
abbrev pub falls_to : (List ℕ → ℕ) → ℕ → List ℕ → Bool
falls_to p i source = p source == i

-- part i of a list: the events whose sources fall to it, in the order of the list
abbrev pub part : (List ℕ → ℕ) → ℕ → List EventValue → List EventValue
part p i events = filter (λ e. falls_to p i (source_of e)) events

-- every source falls to one of the parts 0 to n - 1
abbrev pub FallsBelow : (List ℕ → ℕ) → ℕ → Type 0
FallsBelow p n = (source : List ℕ) → p source < n

-- what the parts 0 to n - 1 of a region give, one behind the other
abbrev pub of_parts : {X : Type 0} → ℕ → (ℕ → List X) → List X
of_parts n f = flat_map f (range_with_len 0 n)

-- ---- the function of the source that is fixed for ever

-- of n parts the one that a source falls to: the first eight bytes of its SHA-256 (FIPS 180-4) as a
-- number, the greatest byte first, modulo n
abbrev pub part_of : ℕ → List ℕ → ℕ
part_of n source = from_be_bytes w64 (take 8 (sha256 source)) % n

-- a region may be in so many parts
abbrev pub IsCountOfParts : ℕ → Type 0
IsCountOfParts n = (1 ≤ n) × (n ≤ 65536)
