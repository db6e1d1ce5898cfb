-- The turns of a transaction that takes events.
use Rattle.std.specs.Prelude.{◌≡◌, ◌≢◌, ℕ, suc, pos, ◌+◌, Bool, true, false, not, List, [], ◌∷◌, ◌++◌, length, IsPermutation, IsTrue, Ok}
use Rattle.std.specs.List.{AllByRecursion}
use Rattle.sqlite_value.specs.declared.value.Value.TheVariants.{Int, Text as Words}
use Rattle.sqlite_value.specs.Order.{Row}
use Rattle.sqlite_schema.specs.declared.schema.Schema.{Schema}
use Rattle.sqlite_schema.specs.declared.schema.Table.{Table}
use Rattle.sqlite_trees.specs.Tree.{Trees}
use Rattle.sqlite.specs.Effect.{Database, IsDatabase}
use Rattle.sqlite.specs.State.{State, IsUnchanged, ExecutesInside}
use Rattle.attributes.specs.Event.{EventValue, id_of, source_of, text}
use Rattle.database_layout.specs.Layout.{HasInbox, HasInbox2, inbox_tree, schema_in}
use Rattle.database_layout.specs.Making.{both_in, upgraded}
use Rattle.database_layout.specs.declared.layout.Layout.{Layout}
use Rattle.inbox.specs.KeyOrder.{key_cmp}
use Rattle.inbox.specs.Ordered.{append_new, has}
use Rattle.inbox_table.specs.Calls.{AreFreshEach, joined}
use Rattle.inbox_table.specs.Rows.{AreNumbered, IsEachOnce, block_of_event, number_in, rows_from}
use Rattle.inbox_table.specs.Texts.{insert_group_text}
use Rattle.inbox_table.specs.declared.version.Version.TheVariants.{Two}

-- where events are put into an inbox: the table of a layout, or one that an upgrade made beside
-- that of version 1
pub data Home : Type 0 where
  At : Layout → Home
  Beside : Layout → Home

-- there is such a table for the inbox's events
abbrev pub IsHome : Home → Type 0
IsHome (At l) = HasInbox2 l
IsHome (Beside l) = HasInbox l

-- the schema with that inbox's table, and its tree
abbrev pub schema_at : Home → Schema
schema_at (At l) = schema_in l
schema_at (Beside l) = both_in l

abbrev pub tree_at : Home → ℕ
tree_at (At l) = inbox_tree l
tree_at (Beside l) = inbox_tree (upgraded l)

-- these events stand in that inbox's table
pub record IsFilled (h : Home) (db : Database) (events : List EventValue) : Type 0 where
  pub home : IsHome h
  pub schema : db.schema ≡ schema_at h
  pub rows : IsPermutation (rows_from Two 1 events) (db.trees (tree_at h))
  pub numbered : AreNumbered events
  pub once : IsEachOnce events

-- each of these tables but the inbox's in the tree has the rows that it had
abbrev pub KeepsOthers : List Table → ℕ → Trees → Trees → Type 0
KeepsOthers tables tree old new =
    AllByRecursion (λ t. t.tree ≢ tree → new t.tree ≡ old t.tree) tables

-- within a transaction the event is put into the inbox at the place behind the last, unless there
pub record Puts (place : ℕ) (e : EventValue) (old new : State) (is_new : Bool) : Type 0 where
  pub table : (h : Home) (events : List EventValue) → IsFilled h old.now events
      → place ≡ suc (length events)
      → IsFilled h new.now (append_new key_cmp events (e ∷ []))
      × (is_new ≡ not (has key_cmp events e))
      × KeepsOthers (schema_at h).tables (tree_at h) old.now.trees new.now.trees
  pub sound : (h : Home) (events : List EventValue) → IsFilled h old.now events → IsDatabase new.now
  pub was_open : IsTrue old.is_open
  pub committed : new.committed ≡ old.committed
  pub mode : IsTrue new.in_transaction

-- within a transaction the event is put into the inbox at the place behind the last, as one that
-- isn't there: it is in, or the table refuses it, and the transaction is as it was
abbrev pub PutsNew : ℕ → EventValue → State → State → Bool → Type 0
PutsNew place e old new true = Puts place e old new true
PutsNew place e old new false = IsUnchanged old new

-- the values by which INSERT puts an event into the inbox's table at a place, and events from it on
abbrev pub params_of : ℕ → EventValue → Row
params_of place e =
    Int (pos place)
    ∷ Words (source_of e)
    ∷ Words (id_of e)
    ∷ Int (pos (number_in e))
    ∷ Words (text e)
    ∷ Int (pos (block_of_event e))
    ∷ []

abbrev pub params_from : ℕ → List EventValue → Row
params_from place [] = []
params_from place (e ∷ es) = params_of place e ++ params_from (suc place) es

-- the inbox once events of `all` were put in behind so many rows, and these are left
pub record IsTaking (h : Home) (rows : ℕ) (all left events : List EventValue) (old now : Database)
    (fresh : ℕ) : Type 0 where
  pub held : List EventValue
  pub table : IsFilled h now held
  pub rest : append_new key_cmp held left ≡ append_new key_cmp events all
  pub count : length held ≡ rows + fresh
  pub sound : IsDatabase old → IsDatabase now
  pub others : KeepsOthers (schema_at h).tables (tree_at h) old.trees now.trees

-- since the transaction began, events of `all` were put into the inbox's table, and these are left
pub record IsKeeping (rows : ℕ) (all left : List EventValue) (old now : State) (fresh : ℕ)
    : Type 0 where
  pub table : (h : Home) (events : List EventValue) → IsFilled h old.now events
      → rows ≡ length events → IsTaking h rows all left events old.now now.now fresh
  pub was_open : IsTrue now.is_open → IsTrue old.is_open
  pub committed : now.committed ≡ old.committed
  pub mode : IsTrue now.in_transaction

-- within a transaction the events are put into the inbox behind so many rows, as such that aren't
-- there: all are in, or the table refuses them, and the transaction is as it was
abbrev pub PutsGroup : ℕ → List EventValue → State → State → Bool → Type 0
PutsGroup rows L old new true = IsKeeping rows L [] old new (length L)
PutsGroup rows L old new false = IsUnchanged old new

-- within a transaction the INSERT of eight events ran with these values; or the inbox's table refused
-- them, and the transaction is as it was
abbrev pub RunsGroup : Row → State → State → Bool → Type 0
RunsGroup params old new true =
    (count : ℕ) × ExecutesInside 0 insert_group_text params old new (Ok count)
RunsGroup params old new false = IsUnchanged old new

-- each of these lists given to an inbox's table has one event
abbrev pub AreSingle : List (List EventValue) → Type 0
AreSingle lists = AllByRecursion (λ L. length L ≡ 1) lists

-- the inbox once the events of lists were put in behind so many rows, and these lists are left
pub record IsTakingEach (h : Home) (rows : ℕ) (all left : List (List EventValue))
    (events : List EventValue) (old now : Database) (fresh : ℕ) (each : List ℕ) : Type 0 where
  pub held : List EventValue
  pub table : IsFilled h now held
  pub rest : append_new key_cmp held (joined left) ≡ append_new key_cmp events (joined all)
  pub count : length held ≡ rows + fresh
  -- so many of each were new, and those of the lists that are left are told behind them
  pub counted : (more : List ℕ) → AreFreshEach held left more
      → AreFreshEach events all (each ++ more)
  pub sound : IsDatabase old → IsDatabase now
  pub others : KeepsOthers (schema_at h).tables (tree_at h) old.trees now.trees

-- since the transaction began, the events of lists were put into the inbox; these lists are left
pub record IsKeepingEach (rows : ℕ) (all left : List (List EventValue)) (old now : State)
    (fresh : ℕ) (each : List ℕ) : Type 0 where
  pub table : (h : Home) (events : List EventValue) → IsFilled h old.now events
      → rows ≡ length events → IsTakingEach h rows all left events old.now now.now fresh each
  pub was_open : IsTrue now.is_open → IsTrue old.is_open
  pub committed : now.committed ≡ old.committed
  pub mode : IsTrue now.in_transaction
