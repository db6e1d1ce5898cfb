-- What a step does to the tables.
use Rattle.std.specs.Prelude.{◌≡◌, ◌==◌, ◌&&◌, ◌+◌, ◌-◌, ℕ, List, Bool, false, Option, None, Some, bytes_eq, if◌then◌else◌}
use Rattle.std.specs.Map.{lookup}
use Rattle.std.specs.Option.{option_eq, option_map_or, unwrap_or}
use Rattle.attributes.specs.Event.{EventValue, kind_of, subject_of}
use Rattle.views.specs.Number.{number_or_0}
use Rattle.views.specs.Tally.{kind_and_day}
use Rattle.kept_views.specs.Tables.{KindDay, Rank, Rows, Tables, Entity, count_in_table, is_kind_day, is_slot, row_place_at, slot_of}

-- the count of the type in a kept table
abbrev pub count_in : List (List ℕ × ℕ) → List ℕ → ℕ
count_in rows kind = unwrap_or (lookup (bytes_eq kind) rows) 0

-- the count of the type and day in a kept table
abbrev pub day_count_in : List (KindDay × ℕ) → KindDay → ℕ
day_count_in rows day = unwrap_or (lookup (is_kind_day day) rows) 0

-- whether a type and day are those of an event that may have none, in the kept counts
abbrev pub is_own : Option KindDay → KindDay → Bool
is_own own day = option_map_or (is_kind_day day) own false

-- a kept count with one more, and with one less
abbrev pub one_more : ℕ → Option ℕ
one_more n = Some (n + 1)

abbrev pub one_less : ℕ → Option ℕ
one_less n = count_in_table (n - 1)

-- in a kept table the counts of the keys that pass the test change so, and the others stay
abbrev pub CountsChange : {K : Type 0} → (K → K → Bool) → (K → Bool) → (ℕ → Option ℕ)
    → List (K × ℕ) → List (K × ℕ) → Type 0
CountsChange {K} same test change old new =
    (k : K) → lookup (same k) new
    ≡ (if test k then change (unwrap_or (lookup (same k) old) 0) else lookup (same k) old)

-- a slot of the kept rows has this place from now on, or none, and the others what they had
abbrev pub SetsSlot : Option (Entity × Rank) → Option ℕ → List (Entity × Rows)
    → List (Entity × Rows) → Type 0
SetsSlot slot place old new =
    (entity : Entity) (rank : Rank)
    → row_place_at new entity rank
    ≡ (if is_slot slot entity rank then place else row_place_at old entity rank)

-- kept tables after an event came in: its type, and type and day, have one more, its slot the place
pub record ComesIn (e : EventValue) (place : ℕ) (old new : Tables) : Type 0 where
  pub kinds : CountsChange bytes_eq (λ k. bytes_eq k (kind_of e)) one_more old.kinds new.kinds
  pub days : CountsChange is_kind_day (is_own (kind_and_day e)) one_more old.days new.days
  pub entities : SetsSlot (slot_of e) (Some place) old.entities new.entities

-- kept tables after an event went: its type, and type and day, have one less, and this slot nothing
pub record GoesOut (e : EventValue) (slot : Option (Entity × Rank)) (old new : Tables)
    : Type 0 where
  pub kinds : CountsChange bytes_eq (λ k. bytes_eq k (kind_of e)) one_less old.kinds new.kinds
  pub days : CountsChange is_kind_day (is_own (kind_and_day e)) one_less old.days new.days
  pub entities : SetsSlot slot None old.entities new.entities

-- whether two events have one subject or none, and one number, so that their kept rows may meet
abbrev pub are_together : EventValue → EventValue → Bool
are_together e f =
    option_eq bytes_eq (subject_of e) (subject_of f) && (number_or_0 e == number_or_0 f)

-- the kept slot of an event, unless it is together with the other
abbrev pub slot_apart : EventValue → EventValue → Option (Entity × Rank)
slot_apart e f = if are_together e f then None else slot_of e
