-- Tables about the shown events of a set, kept as events come. A is what came, in its order.
use Rattle.std.specs.Prelude.{◌≡◌, ◌&&◌, ℕ, ℤ, zero, suc, List, [], Bool, false, Option, None, Some, Contains, bytes_eq, count_by, slice_get}
use Rattle.std.specs.Map.{lookup}
use Rattle.std.specs.Option.{option_map_or, option_map}
use Rattle.std.specs.Ordering.{int_eq, is_eq, nat_cmp, ordering_then}
use Rattle.std.specs.declared.cmp.Ordering.{Ordering}
use Rattle.std.specs.declared.random_state.RandomState.{RandomState}
use Rattle.attributes.specs.Bytes.{byte_cmp}
use Rattle.attributes.specs.Event.{EventValue, id_of, kind_of, source_of, subject_of}
use Rattle.inbox.specs.Sets.{set_of}
use Rattle.inbox.specs.Shown.{shown}
use Rattle.views.specs.Number.{number_or_0}
use Rattle.views.specs.Tally.{kind_and_day}

-- a type and a UTC day, by which kept views count
abbrev pub KindDay : Type 0
KindDay = List ℕ × ℤ

-- a source and a subject, of which kept views have rows
abbrev pub Entity : Type 0
Entity = List ℕ × List ℕ

-- a number and an id, which tell the events of an entity apart in its kept rows
abbrev pub Rank : Type 0
Rank = ℕ × List ℕ

-- the kept rows of an entity: ranks with places among what came
abbrev pub Rows : Type 0
Rows = List (Rank × ℕ)

-- the kept tables: types with counts, types by day with counts, and entities with rows; and what
-- the keys of each of the three are hashed by: a random state, or what everybody knows
pub record Tables : Type 0 where
  pub kinds : List (List ℕ × ℕ)
  pub days : List (KindDay × ℕ)
  pub entities : List (Entity × Rows)
  pub states : List (Option RandomState)

-- ---- types

-- a count as a kept table has it: none for 0
abbrev pub count_in_table : ℕ → Option ℕ
count_in_table zero = None
count_in_table (suc n) = Some (suc n)

-- how many of the events have the type, as kept views count
abbrev pub count_of_kind : List EventValue → List ℕ → ℕ
count_of_kind events kind = count_by (λ e. bytes_eq kind (kind_of e)) events

-- the kept table has each type of the events with its count of them, and nothing else
abbrev pub CountsKinds : List EventValue → List (List ℕ × ℕ) → Type 0
CountsKinds events rows =
    (kind : List ℕ) → lookup (bytes_eq kind) rows ≡ count_in_table (count_of_kind events kind)

-- ---- types by day

abbrev pub is_kind_day : KindDay → KindDay → Bool
is_kind_day x y = bytes_eq x.0 y.0 && int_eq x.1 y.1

-- whether kept views count the event at the type and UTC day; one without a time has no day
abbrev pub is_on : KindDay → EventValue → Bool
is_on day e = option_map_or (is_kind_day day) (kind_and_day e) false

-- how many of the events have the type and the day, as kept views count
abbrev pub count_of_day : List EventValue → KindDay → ℕ
count_of_day events day = count_by (is_on day) events

-- the kept table has each type and day of the events with their count, and nothing else
abbrev pub CountsDays : List EventValue → List (KindDay × ℕ) → Type 0
CountsDays events rows =
    (day : KindDay) → lookup (is_kind_day day) rows ≡ count_in_table (count_of_day events day)

-- ---- entities

-- the order of an entity's kept rows: by number, then id
abbrev pub rank_cmp : Rank → Rank → Ordering
rank_cmp x y = ordering_then (nat_cmp x.0 y.0) (byte_cmp x.1 y.1)

abbrev pub is_entity : Entity → Entity → Bool
is_entity x y = bytes_eq x.0 y.0 && bytes_eq x.1 y.1

abbrev pub is_rank : Rank → Rank → Bool
is_rank x y = is_eq (rank_cmp x y)

-- the kept rows of the entity
abbrev pub rows_of : List (Entity × Rows) → Entity → Rows
rows_of entities entity = option_map_or (λ rows. rows) (lookup (is_entity entity) entities) []

-- the place in the kept row of the entity that has the rank
abbrev pub row_place_at : List (Entity × Rows) → Entity → Rank → Option ℕ
row_place_at entities entity rank = lookup (is_rank rank) (rows_of entities entity)

-- where an event's kept row stands: in its entity, at its number and id; none without a subject
abbrev pub slot_of : EventValue → Option (Entity × Rank)
slot_of e =
    option_map (λ subject. ((source_of e, subject), (number_or_0 e, id_of e))) (subject_of e)

-- whether a slot of the kept rows is that of the entity and the rank
abbrev pub is_slot : Option (Entity × Rank) → Entity → Rank → Bool
is_slot slot entity rank = option_map_or (λ s. is_entity s.0 entity && is_rank s.1 rank) slot false

-- each kept row is of one of the events, which came at the row's place
abbrev pub RowsAreOf : List EventValue → List EventValue → List (Entity × Rows) → Type 0
RowsAreOf A events entities =
    (entity : Entity) (rank : Rank) (place : ℕ) → row_place_at entities entity rank ≡ Some place
    → (e : EventValue) × (slice_get A place ≡ Some e) × Contains events e
    × (slot_of e ≡ Some (entity, rank))

-- each of the events that has a subject has a row in the kept tables
abbrev pub EachHasRow : List EventValue → List (Entity × Rows) → Type 0
EachHasRow events entities =
    (e : EventValue) (entity : Entity) (rank : Rank) → Contains events e
    → slot_of e ≡ Some (entity, rank) → (place : ℕ) × (row_place_at entities entity rank ≡ Some place)

-- the kept tables are those of the shown events of what came
pub record AreTablesOfShown (A : List EventValue) (tables : Tables) : Type 0 where
  pub kinds : CountsKinds (shown (set_of A)) tables.kinds
  pub days : CountsDays (shown (set_of A)) tables.days
  pub rows : RowsAreOf A (shown (set_of A)) tables.entities
  pub each : EachHasRow (shown (set_of A)) tables.entities
