-- What is found of a table of events in files that crashed after a call, wherever that was stopped.
use Rattle.std.specs.Prelude.{◌≡◌, ◌≢◌, ◌⊎◌, List, [], IsTrue, false, true}
use Rattle.sqlite_disk.specs.declared.Disk.{Ghosts}
use Rattle.sqlite_store.specs.declared.store.FileStore.{FileStore}
use Rattle.sqlite.specs.Effect.{Database, IsDatabase}
use Rattle.sqlite.specs.Files.{IsCleanLeft, file_state}
use Rattle.sqlite.specs.Held.{Held}
use Rattle.sqlite.specs.State.{HasCleanDisk, State, Survives}
use Rattle.attributes.specs.Event.{EventValue}
use Rattle.inbox.specs.KeyOrder.{key_cmp}
use Rattle.inbox.specs.Ordered.{append_new}
use Rattle.database_layout.specs.Layout.{has_inbox}
use Rattle.inbox_table.specs.Calls.{IsSettled, MayMake, MayTake, MayUpgrade}
use Rattle.inbox_table.specs.Opening.{MayOpen}
use Rattle.inbox_table.specs.Rows.{IsAnyInbox, IsInbox}
use Rattle.inbox_table.specs.declared.fault.TableFault.{TableFault}
use Rattle.inbox_table.specs.declared.fault.TableFault.TheVariants.{Foreign}
use Rattle.reopening.specs.Crash.{FailsToReopen}
use Rattle.reopening.specs.declared.tables.NoTable.{NoTable}
use Rattle.reopening.specs.declared.tables.NoTable.TheVariants as none

-- before a call, and a crash, the database had this list
pub record HadList (old : State) (held : List EventValue) : Type 0 where
  pub is_open : IsTrue old.is_open
  pub sound : IsDatabase old.now
  pub list : IsInbox old.now held
  -- a crash left it alone, as after each call that answered
  pub settled : IsSettled old

-- and then events L were given to `Table::keep`, which came to its end or was stopped at any write:
-- this is its clause `crash`
abbrev pub KeepsUntil : State → List EventValue → State → Type 0
KeepsUntil old L stopped =
    Survives old stopped (λ trees. IsTrue old.is_open → MayTake L old.now trees)

-- before a call, and a crash, the database had no table of events
pub record HadNoList (old : State) : Type 0 where
  pub is_open : IsTrue old.is_open
  pub sound : IsDatabase old.now
  pub list : has_inbox old.now.schema ≡ false
  pub settled : IsSettled old

-- and then, before a crash, `Table::create` was to make one
abbrev pub MakesUntil : State → State → Type 0
MakesUntil old stopped = Survives old stopped (MayMake old.now)

-- before a call, and a crash, the database was open, whatever it had
pub record HadDatabase (old : State) : Type 0 where
  pub is_open : IsTrue old.is_open
  pub sound : IsDatabase old.now
  pub settled : IsSettled old

-- and then, before a crash, `Table::open` was to take a table over, or to make one where none was
abbrev pub OpensUntil : State → State → Type 0
OpensUntil old stopped = Survives old stopped (MayOpen old.now)

-- or, before a crash, `Table::adopt` was to take one over
abbrev pub AdoptsUntil : State → State → Type 0
AdoptsUntil old stopped = Survives old stopped (MayUpgrade old.now)

-- before a crash a table had these events, of either version, or there was none, and no event
pub record WereHeld (db : Database) (events : List EventValue) : Type 0 where
  pub there : has_inbox db.schema ≡ true → IsAnyInbox db events
  pub none : has_inbox db.schema ≡ false → events ≡ []

module _ {S : Type 0} (state : Held S → State) where
  -- from the one connection to the other, a list was opened and given events L, by a call of `keep`
  -- that came to its end or was stopped at any write
  pub record GaveEvents (first : Held S) (L : List EventValue) (last : Held S) : Type 0 where
    pub old : Held S
    pub held : List EventValue
    -- it had what the database had at first
    pub were : WereHeld (state first).now held
    pub had : HadList (state old) held
    pub until : KeepsUntil (state old) L (state last)

module _ {D : Type 0} {g : Ghosts D} (c : Held (FileStore D g)) where
  -- these events are found, where a call left the connection `c`
  pub record FindsList (found : State) (events : List EventValue) : Type 0 where
    -- the disk gave back what was written before, too
    pub clean : HasCleanDisk (file_state c)
    -- they are the list of before the call, or that list and the events that it was given, each in
    -- its turn behind the last; and the database obeys its own schema, so that this is what the
    -- next call finds
    pub kept : (old : Held (FileStore D g)) (held L : List EventValue)
        → HadList (file_state old) held
        → KeepsUntil (file_state old) L (file_state c)
        → ((events ≡ held) ⊎ (events ≡ append_new key_cmp held L)) × IsDatabase found.now
    -- there are none where the table was being made
    pub made : (old : Held (FileStore D g)) → HadNoList (file_state old)
        → MakesUntil (file_state old) (file_state c) → (events ≡ []) × IsDatabase found.now
    -- they are those of before where a table was being opened, or taken over, of either version
    pub opened : (old : Held (FileStore D g)) → HadDatabase (file_state old)
        → OpensUntil (file_state old) (file_state c) → WereHeld (file_state old).now events
    pub adopted : (old : Held (FileStore D g)) → HadDatabase (file_state old)
        → AdoptsUntil (file_state old) (file_state c) → IsAnyInbox (file_state old).now events
    -- the database is open and has them, and a crash leaves them
    pub list : IsInbox found.now events
    pub is_open : IsTrue found.is_open
    pub settled : IsSettled found

  -- a list that was there before a call isn't taken for something else
  pub record KnowsList (fault : TableFault) : Type 0 where
    pub kept : (old : Held (FileStore D g)) (held L : List EventValue)
        → HadList (file_state old) held → KeepsUntil (file_state old) L (file_state c)
        → fault ≢ Foreign
    pub opened : (old : Held (FileStore D g)) (held : List EventValue)
        → HadDatabase (file_state old) → IsAnyInbox (file_state old).now held
        → OpensUntil (file_state old) (file_state c) → fault ≢ Foreign
    pub adopted : (old : Held (FileStore D g)) (held : List EventValue)
        → HadDatabase (file_state old) → IsAnyInbox (file_state old).now held
        → AdoptsUntil (file_state old) (file_state c) → fault ≢ Foreign

  -- no table is found
  abbrev pub FindsNoTable : NoTable D g → Type 0
  -- the files weren't opened, for this error
  FindsNoTable (none.Unopened e rest) = IsCleanLeft rest → FailsToReopen c rest e
  -- they were, and the table isn't taken
  FindsNoTable (none.Refused n) = HasCleanDisk (file_state n.conn) → KnowsList n.fault
