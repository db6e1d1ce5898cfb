-- The rows of the table, and the list of events that they stand for.
use Rattle.std.specs.Prelude.{◌≡◌, ◌⊎◌, ◌/◌, ℕ, suc, pos, List, [], ◌∷◌, ◌&&◌, Bool, bytes_eq, drop, eqb, filter, take, IsPermutation, IsSome, unwrap_or}
use Rattle.std.specs.List.{AllByRecursion}
use Rattle.sqlite_value.specs.declared.value.Value.TheVariants.{Null, Int, Text as Words}
use Rattle.sqlite_value.specs.Order.{Row}
use Rattle.sqlite.specs.Effect.{Database}
use Rattle.attributes.specs.Event.{EventValue, id_of, source_of, text}
use Rattle.attributes.specs.Fault.{IsEvent}
use Rattle.attributes.specs.Sequence.{number_of}
use Rattle.database_layout.specs.Layout.{inbox_tree, schema_in}
use Rattle.database_layout.specs.declared.layout.Layout.{Layout}
use Rattle.inbox.specs.Shown.{has_key}
use Rattle.inbox_table.specs.Version.{HasTable}
use Rattle.inbox_table.specs.declared.version.Version.{Version}
use Rattle.inbox_table.specs.declared.version.Version.TheVariants.{One, Two}
pub use Rattle.inbox.specs.Sets.{IsEachOnce}

-- the number in an event's row of the inbox, and its block: block k has the numbers from 1024 k on,
-- 1,024 of them
abbrev pub number_in : EventValue → ℕ
number_in e = unwrap_or (number_of e) 0

abbrev pub block_of_event : EventValue → ℕ
block_of_event e = number_in e / 1024

-- the event in the inbox's table is one of this source and block
abbrev pub is_of_block : List ℕ → ℕ → EventValue → Bool
is_of_block source k e = bytes_eq (source_of e) source && eqb (block_of_event e) k

-- the events of a source and block, in the order in which they stand in the inbox's table
abbrev pub events_of_block : List ℕ → ℕ → List EventValue → List EventValue
events_of_block source k events = filter (is_of_block source k) events

-- the events of a source and an id, in the order in which they stand in the inbox's table
abbrev pub events_named : List ℕ → List ℕ → List EventValue → List EventValue
events_named source id events = filter (has_key source id) events

-- the events at so many places of the inbox's table behind one, or those that are there; the first
-- place is 1
abbrev pub events_after : ℕ → ℕ → List EventValue → List EventValue
events_after place count events = take count (drop place events)

-- the last values of a row of the inbox's table, which version 1 doesn't have
abbrev pub tail_of : Version → EventValue → Row
tail_of One e = []
tail_of Two e = Int (pos (block_of_event e)) ∷ []

-- the row of an event at a place, as the inbox's table keeps it: the rowid, which is the place,
-- then the columns, of which the place itself is kept as NULL
abbrev pub row_of : Version → ℕ → EventValue → Row
row_of v place e =
    Int (pos place)
    ∷ Null
    ∷ Words (source_of e)
    ∷ Words (id_of e)
    ∷ Int (pos (number_in e))
    ∷ Words (text e)
    ∷ tail_of v e

-- the inbox's rows of events whose places run from this one on
abbrev pub rows_from : Version → ℕ → List EventValue → List Row
rows_from v place [] = []
rows_from v place (e ∷ es) = row_of v place e ∷ rows_from v (suc place) es

-- the row of an event at a place, as a question shows it of the inbox's table
abbrev pub shown_of : Version → ℕ → EventValue → Row
shown_of v place e =
    Int (pos place)
    ∷ Words (source_of e)
    ∷ Words (id_of e)
    ∷ Int (pos (number_in e))
    ∷ Words (text e)
    ∷ tail_of v e

-- and those rows of the inbox's table whose events' places run from this one on
abbrev pub shown_from : Version → ℕ → List EventValue → List Row
shown_from v place [] = []
shown_from v place (e ∷ es) = shown_of v place e ∷ shown_from v (suc place) es

-- an event that has a number, as each in the inbox's table
pub record IsNumbered (e : EventValue) : Type 0 where
  pub event : IsEvent e
  pub number : IsSome (number_of e)

-- each is an event that has a number, for the inbox's table
abbrev pub AreNumbered : List EventValue → Type 0
AreNumbered es = AllByRecursion IsNumbered es

-- the database has the inbox's table in this version, and its rows are those of these events at the
-- places 1, 2 and so on, each with a number and none of them twice
pub record IsListed (v : Version) (db : Database) (events : List EventValue) : Type 0 where
  pub layout : Layout
  pub has : HasTable v layout
  pub schema : db.schema ≡ schema_in layout
  pub rows : IsPermutation (rows_from v 1 events) (db.trees (inbox_tree layout))
  pub numbered : AreNumbered events
  pub once : IsEachOnce events

-- it has the inbox's table in version 2, which the calls make and keep
abbrev pub IsInbox : Database → List EventValue → Type 0
IsInbox = IsListed Two

-- it has the inbox's table in version 1, which only a taking over meets
abbrev pub IsOldInbox : Database → List EventValue → Type 0
IsOldInbox = IsListed One

-- it has the inbox's table in either version
abbrev pub IsAnyInbox : Database → List EventValue → Type 0
IsAnyInbox db events = IsInbox db events ⊎ IsOldInbox db events
