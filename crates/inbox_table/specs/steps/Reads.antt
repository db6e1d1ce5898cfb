-- A reading of the table.
use Rattle.std.specs.Prelude.{◌≡◌, ◌≤◌, ◌/◌, ℕ, suc, pos, Bool, List, [], ◌∷◌, ◌++◌, drop, filter, length, IsTrue}
use Rattle.sqlite_value.specs.declared.value.Value.TheVariants.{Int}
use Rattle.sqlite_value.specs.Order.{Row, column}
use Rattle.sqlite_schema.specs.declared.schema.Schema.{Schema}
use Rattle.sqlite_trees.specs.View.{doubt}
use Rattle.sqlite_trees.specs.declared.store.Store.{Ghosts}
use Rattle.sqlite.specs.Effect.{Database, IsDatabase}
use Rattle.sqlite.specs.Given.{HasGiven}
use Rattle.sqlite.specs.Held.{Held, state}
use Rattle.sqlite.specs.State.{State, HasCleanDisk, IsUnchanged}
use Rattle.attributes.specs.Event.{EventValue}
use Rattle.database_layout.specs.Layout.{schema_in}
use Rattle.database_layout.specs.declared.layout.Layout.{Layout}
use Rattle.inbox_table.specs.Rows.{AreNumbered, IsListed, IsNumbered, shown_from, shown_of}
use Rattle.inbox_table.specs.Texts.{select_text}
use Rattle.inbox_table.specs.Version.{HasTable}
use Rattle.inbox_table.specs.declared.version.Version.{Version}
use Rattle.inbox_table.specs.declared.version.Version.TheVariants.{One, Two}

-- the schema has the inbox's table in this version
abbrev pub HasVersion : Version → Schema → Type 0
HasVersion v schema = (l : Layout) × HasTable v l × (schema ≡ schema_in l)

-- while the disk is honest and the database open, a reading of the inbox's table changed nothing
pub record IsTableReading (old new : State) : Type 0 where
  pub clean : doubt old.is_clean ≤ doubt new.is_clean
  pub was_open : HasCleanDisk new → IsTrue new.is_open → IsTrue old.is_open
  pub same : HasCleanDisk new → IsTrue new.is_open
      → (new.now ≡ old.now) × (new.committed ≡ old.committed)

-- what was read of the inbox's table in this version: how many rows it has, and those of its events
-- that were wanted
pub record TellsRows (v : Version) (wanted : EventValue → Bool) (db : Database) (rows : ℕ)
    (batch : List EventValue) : Type 0 where
  pub events : List EventValue
  pub table : IsListed v db events
  pub only : (m : List EventValue) → IsListed v db m → events ≡ m
  pub count : rows ≡ length events
  pub kept : batch ≡ filter wanted events

-- the question for all rows is asked of a database with the inbox's table, and gave none so far
pub record IsAtStart {S : Type 0} (v : Version) (g : Ghosts S) (h : Held S) : Type 0 where
  pub ours : HasVersion v (state g h).now.schema
  pub live : IsDatabase (state g h).now
  pub given : HasGiven g (select_text v) [] h []
  pub is_open : IsTrue (state g h).is_open

-- since the question was asked nothing changed, and the inbox's rows so far are those of events at
-- the places before this one, of which the batch has those that are wanted
pub record HasRead {S : Type 0} (v : Version) (g : Ghosts S) (start now : Held S)
    (wanted : EventValue → Bool) (place : ℕ) (batch : List EventValue) : Type 0 where
  pub events : List EventValue
  pub given : HasGiven g (select_text v) [] now (shown_from v 1 events)
  pub same : IsUnchanged (state g start) (state g now)
  pub numbered : AreNumbered events
  pub count : place ≡ suc (length events)
  pub kept : batch ≡ filter wanted events

-- behind its first five values a row of the inbox's table has those that the version has more
abbrev pub HasTail : Version → ℕ → Row → Type 0
HasTail One number row = length row ≡ 5
HasTail Two number row = (length row ≡ 6) × (column row 5 ≡ Int (pos (number / 1024)))

-- a row that a question shows of the inbox's table is that of an event with a number, at some place
pub record IsShownRow (row : Row) (e : EventValue) : Type 0 where
  pub numbered : IsNumbered e
  pub place : ℕ
  pub is : row ≡ shown_of Two place e

-- the rows that a question shows of the inbox's table are those of these events, one for each
abbrev pub AreShown : List Row → List EventValue → Type 0
AreShown [] [] = Unit {0}
AreShown (row ∷ rows) (e ∷ events) = IsShownRow row e × AreShown rows events
AreShown _ _ = ⊥

-- the batch has the events of the rows of the inbox's table before a place, from 0, of those shown
pub record HasShown (rows : List Row) (at : ℕ) (batch events : List EventValue) : Type 0 where
  pub left : List EventValue
  pub rest : AreShown (drop at rows) left
  pub so_far : batch ++ left ≡ events
