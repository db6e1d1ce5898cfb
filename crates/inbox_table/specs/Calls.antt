-- What calls do to a table.
use Rattle.std.specs.Prelude.{◌≡◌, ◌≢◌, ◌≤◌, ◌*◌, ℕ, ◌+◌, Bool, false, ◌&&◌, List, [], ◌∷◌, length, sum, codes, Err, Result, IfErr, IfOk, IsTrue, OnErr, OnOk}
use Rattle.std.specs.List.{flat_map}
use Rattle.sqlite_schema.specs.declared.schema.Schema.{Schema}
use Rattle.sqlite_trees.specs.Tree.{Trees}
use Rattle.sqlite.specs.Effect.{Database, IsDatabase}
use Rattle.sqlite.specs.Held.{Held}
use Rattle.sqlite.specs.State.{State, HasCleanDisk, Survives}
use Rattle.attributes.specs.Event.{EventValue}
use Rattle.inbox.specs.KeyOrder.{key_cmp}
use Rattle.inbox.specs.Ordered.{append_new}
use Rattle.database_layout.specs.Layout.{HasInboxForm, IsOurs, has_table}
use Rattle.inbox_table.specs.Beside.{GainsInbox, KeepsServiceBeside, UpgradesTables}
use Rattle.inbox_table.specs.Fault.{IsOfStore}
use Rattle.inbox_table.specs.Rows.{IsAnyInbox, IsInbox, IsListed, IsOldInbox}
use Rattle.inbox_table.specs.declared.version.Version.{Version}
use Rattle.inbox_table.specs.declared.fault.TableFault.{TableFault}
use Rattle.inbox_table.specs.declared.fault.TableFault.TheVariants.{Foreign}
pub use Rattle.database_layout.specs.States.{IsAsItWas, IsSettled}

-- what an inbox's `Table` shows: its connection, and how many rows it has
pub record KeptTable (S : Type 0) : Type 0 where
  pub conn : Held S
  pub rows : ℕ

-- the database has the inbox's table, with so many events
pub record Stands (db : Database) (rows : ℕ) : Type 0 where
  pub events : List EventValue
  pub table : IsInbox db events
  pub count : rows ≡ length events

-- it has the inbox's table while the disk gives back what was written and the database is open
abbrev pub StandsFor : State → ℕ → Type 0
StandsFor s rows = HasCleanDisk s → IsTrue s.is_open → Stands s.now rows

-- ---- a table is made

-- an inbox's table without events was made beside what was there
pub record IsMade (old new : Database) : Type 0 where
  pub table : IsInbox new []
  pub beside : GainsInbox old new

-- these are the trees of a database in which the inbox's table was made
pub record MayMake (old : Database) (trees : Trees) : Type 0 where
  pub db : Database
  pub are : trees ≡ db.trees
  pub sound : IsDatabase db
  pub made : IsMade old db

-- what `create` of the inbox's table does, while the disk gives back what was written
pub record Creates (old new : State) : Type 0 where
  pub made : IsMade old.now new.now
  pub stays_open : IsTrue new.is_open
  -- a crash leaves the table
  pub settled : IsSettled new

-- where `create` was done, it made the inbox's table
abbrev pub CreatesIfDone : {A E : Type 0} → State → State → Result A E → Type 0
CreatesIfDone old new result = HasCleanDisk new → OnOk result (Creates old new)

-- ---- a table is taken over

-- both versions of the inbox's table are there, in whatever form
abbrev pub has_both : Schema → Bool
has_both schema = has_table schema (codes "inbox") && has_table schema (codes "inbox2")

-- these are the trees of a database in which the events of an inbox's table of version 1 stand in
-- one of version 2 in its place
pub record MayUpgrade (old : Database) (trees : Trees) : Type 0 where
  pub db : Database
  pub are : trees ≡ db.trees
  pub sound : IsDatabase db
  pub events : List EventValue
  pub was : IsOldInbox old events
  pub is : IsInbox db events
  pub beside : UpgradesTables old db

-- what a crash may leave of an upgrade of the inbox's table, done or refused
abbrev pub LeavesUpgrade : State → State → Type 0
LeavesUpgrade old new = Survives old new (MayUpgrade old.now)

-- what a taking over of an inbox with these events does, while the disk gives back what was written
pub record Adopts (old new : State) (events : List EventValue) : Type 0 where
  -- they are those of the table that was there, and nothing else is
  pub found : IsAnyInbox old.now events
  pub only : (m : List EventValue) → IsAnyInbox old.now m → events ≡ m
  -- they stand at the same places in a table of version 2 now
  pub is : IsInbox new.now events
  -- one that was there is as it was; one of version 1 has given way, and a service has its rows
  pub same : IsInbox old.now events → new.now ≡ old.now
  pub upgraded : IsOldInbox old.now events → UpgradesTables old.now new.now
  pub stays_open : IsTrue new.is_open
  -- a crash leaves just that
  pub settled : IsSettled new

-- a look at the inbox's table found it in this version, with these events
pub record Finds (db : Database) (v : Version) (events : List EventValue) : Type 0 where
  -- they are those of the table that is there, and nothing else is
  pub table : IsListed v db events
  pub only : (m : List EventValue) → IsAnyInbox db m → events ≡ m

-- a taking over of an inbox's table is refused for this fault, or a look
pub record Rejects (old new : State) (fault : TableFault) : Type 0 where
  -- `Foreign` only where there is no such table, and then nothing was written
  pub foreign : HasCleanDisk new → fault ≡ Foreign
      → (events : List EventValue) → IsAnyInbox old.now events → ⊥
  pub unwritten : fault ≡ Foreign → Survives old new (λ _. ⊥)
  -- nor where a table of our form lies beside others than ours
  pub strange : ¬ IsOurs old.now.schema → HasInboxForm old.now.schema.tables
      → has_both old.now.schema ≡ false → fault ≢ Foreign
  -- the database is as it was
  pub same : IsAsItWas old new

-- ---- events are kept

-- whatever events the inbox's table had, it has them and behind them those of L that weren't there,
-- each in its turn
abbrev pub Takes : List EventValue → Database → Database → Type 0
Takes L old new =
    (events : List EventValue) → IsInbox old events → IsInbox new (append_new key_cmp events L)

-- the events of L that weren't in the inbox's table are so many
abbrev pub AreFresh : List EventValue → Database → ℕ → Type 0
AreFresh L old fresh = (events : List EventValue) → IsInbox old events
    → length events + fresh ≡ length (append_new key_cmp events L)

-- these are the trees of a database whose inbox has taken L, with what lies beside it as it was
pub record MayTake (L : List EventValue) (old : Database) (trees : Trees) : Type 0 where
  pub db : Database
  pub are : trees ≡ db.trees
  pub sound : IsDatabase db
  pub takes : Takes L old db
  pub beside : KeepsServiceBeside old db

-- events were given to an inbox's table with so many: how many it has then
pub record KeepCall (was is : ℕ) (result : Result ℕ TableFault) : Type 0 where
  pub counted : IfOk result (λ fresh. is ≡ was + fresh)
  -- refused, as many as before; for want of memory, or another refusal of the store
  pub back : OnErr result (is ≡ was)
  pub fault : IfErr result IsOfStore

-- what giving events to an inbox does to the database, while the disk gives back what was written
pub record KeepEffect (L : List EventValue) (old new : State) (result : Result ℕ TableFault)
    : Type 0 where
  -- the events are in, so many of them were not there, and a crash leaves them
  pub takes : OnOk result (Takes L old.now new.now)
  pub fresh : IfOk result (AreFresh L old.now)
  pub beside : OnOk result (KeepsServiceBeside old.now new.now)
  pub stays_open : OnOk result (IsTrue new.is_open)
  pub settled : OnOk result (IsSettled new)
  -- refused, the database is as it was
  pub same : IsTrue new.is_open → OnErr result (new.now ≡ old.now)
  pub was_open : IsTrue new.is_open → IsTrue old.is_open

-- ---- several lists of events are kept

-- the events of all lists given to an inbox's table, one list behind the other
abbrev pub joined : List (List EventValue) → List EventValue
joined lists = flat_map (λ L. L) lists

-- the lists come one after the other behind what was in the inbox's table, and of each so many
-- events were not there by then
abbrev pub AreFreshEach : List EventValue → List (List EventValue) → List ℕ → Type 0
AreFreshEach events [] [] = Unit {0}
AreFreshEach events (L ∷ lists) (fresh ∷ each) =
    (length events + fresh ≡ length (append_new key_cmp events L))
    × AreFreshEach (append_new key_cmp events L) lists each
AreFreshEach events _ _ = ⊥

-- lists were given to an inbox's table with so many events: how many it has then
pub record KeepEachCall (was is : ℕ) (result : Result (List ℕ) TableFault) : Type 0 where
  pub counted : IfOk result (λ each. is ≡ was + sum each)
  -- refused, as many as before; for want of memory, or another refusal of the store
  pub back : OnErr result (is ≡ was)
  pub fault : IfErr result IsOfStore

-- what giving lists to an inbox does to the database, while the disk gives back what was written
pub record KeepEachEffect (lists : List (List EventValue)) (old new : State)
    (result : Result (List ℕ) TableFault) : Type 0 where
  -- the events are in, so many of each list were not there by then, and a crash leaves them
  pub takes : OnOk result (Takes (joined lists) old.now new.now)
  pub fresh : IfOk result (λ each. (events : List EventValue) → IsInbox old.now events
      → AreFreshEach events lists each)
  pub beside : OnOk result (KeepsServiceBeside old.now new.now)
  pub stays_open : OnOk result (IsTrue new.is_open)
  pub settled : OnOk result (IsSettled new)
  -- refused, the database is as it was
  pub same : IsTrue new.is_open → OnErr result (new.now ≡ old.now)
  pub was_open : IsTrue new.is_open → IsTrue old.is_open

-- a watch was told, after each thousand of so many events, how many were in the inbox's table
abbrev pub IsTold : (ℕ → ℕ → Type 0) → ℕ → Type 0
IsTold told all = (n : ℕ) → 1 ≤ n → n * 1000 ≤ all → told (n * 1000) all

-- ---- events are read

-- what a reading of an inbox's table with so many events does, while the disk gives back what was
-- written; `shown` is what it shows of the list
pub record ReadEffect (shown : List EventValue → List EventValue) (rows : ℕ) (old new : State)
    (result : Result (List EventValue) TableFault) : Type 0 where
  pub list : IfOk result (λ l.
      (m : List EventValue) × IsInbox old.now m × (rows ≡ length m) × (l ≡ shown m))
  pub only : IfOk result (λ l. (m : List EventValue) → IsInbox old.now m → l ≡ shown m)
  pub stays_open : OnOk result (IsTrue new.is_open)
  pub settled : OnOk result (IsSettled new)
  -- never `Foreign` of a table that the calls leave
  pub known : IsTrue new.is_open → result ≢ Err Foreign
  pub same : IsTrue new.is_open → new.now ≡ old.now
