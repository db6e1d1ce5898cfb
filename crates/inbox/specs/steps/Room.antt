-- For how many more items there is room.
use Rattle.std.specs.Prelude.{ℕ, ◌+◌, ◌-◌, min}

-- the room in an inbox's two buffers of positions, filled in turn, with so many settled and late
abbrev pub room_in : ℕ → ℕ → ℕ → ℕ → ℕ
room_in capacity other_capacity settled late = min capacity other_capacity - (settled + late)

-- the room left among an inbox's events, which have a place each
abbrev pub spare_in : ℕ → ℕ → ℕ → ℕ
spare_in capacity len room = min (capacity - len) room
