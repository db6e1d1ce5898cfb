-- A list that is kept in two: settled items, and late ones with how many settled items stand before
-- each.
use Rattle.std.specs.Prelude.{◌≡◌, ◌≢◌, ℕ, ◌+◌, ◌-◌, ◌≤◌, ◌<◌, List, [], ◌∷◌, ◌++◌, Some, length, slice_get, take, drop}
use Rattle.inbox.specs.declared.places.Late.{Late}

-- an inbox's order from n on: the settled items that are left, with the late ones in their places
abbrev pub woven : ℕ → List ℕ → List Late → List ℕ
woven n settled [] = settled
woven n settled (l ∷ late) =
    take (l.before - n) settled ++ l.position ∷ woven l.before (drop (l.before - n) settled) late

-- the inbox's settled items from n on that stand before a late one, and the late one
abbrev pub up_to_late : ℕ → List ℕ → Late → List ℕ
up_to_late n settled l = take (l.before - n) (drop n settled) ++ l.position ∷ []

-- the inbox's late items stand in order behind n to m settled ones
abbrev pub Rise : ℕ → ℕ → List Late → Type 0
Rise n m [] = n ≤ m
Rise n m (l ∷ late) = (n ≤ l.before) × Rise l.before m late

-- an inbox's settled and late positions, and for how many more there is room
pub record Placed : Type 0 where
  pub settled : List ℕ
  pub late : List Late
  pub room : ℕ

-- all positions of an inbox in their order
abbrev pub order : Placed → List ℕ
order p = woven 0 p.settled p.late

-- behind so many settled positions and so many late ones there is one place of the inbox's order
pub record StandsAt (p : Placed) (before late : ℕ) : Type 0 where
  pub within : late ≤ length p.late
  pub first : Rise 0 before (take late p.late)
  pub rest : Rise before (length p.settled) (drop late p.late)

-- an inbox's late positions fit among the settled ones and in a second buffer, and where there is
-- room one late position can be kept
pub record HasRoom (settled late settled_room other_room late_room : ℕ) : Type 0 where
  pub fits : settled + late ≤ settled_room
  pub fits_other : settled + late ≤ other_room
  pub next : 0 < settled_room + other_room → 0 < late_room

-- the inbox's late item at k, where there is one, stands among the first i of all
abbrev pub IsAmong : List Late → ℕ → ℕ → Type 0
IsAmong late k i = (l : Late) → slice_get late k ≡ Some l → l.before + k < i

-- the inbox's late item at k, where there is one, stands behind the first i of all
abbrev pub IsLateBehind : List Late → ℕ → ℕ → Type 0
IsLateBehind late k i = (l : Late) → slice_get late k ≡ Some l → i ≤ l.before + k

-- the inbox's late item at k stands at place i of all, and has a position
pub record IsLateAt (late : List Late) (k i position : ℕ) : Type 0 where
  pub item : Late
  pub is_there : slice_get late k ≡ Some item
  pub place : item.before + k ≡ i
  pub is_position : position ≡ item.position

-- the inbox's late item at k, where there is one, stands at another place than i
abbrev pub IsElsewhere : List Late → ℕ → ℕ → Type 0
IsElsewhere late k i = (l : Late) → slice_get late k ≡ Some l → l.before + k ≢ i
