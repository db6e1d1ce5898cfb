-- What opening a table does: one that is there is taken over, else it is made.
use Rattle.std.specs.Prelude.{◌≡◌, ◌⊎◌, ℕ, List, [], true, false, length, IsTrue}
use Rattle.sqlite_trees.specs.Tree.{Trees}
use Rattle.sqlite.specs.Effect.{Database}
use Rattle.sqlite.specs.State.{State, Survives}
use Rattle.attributes.specs.Event.{EventValue}
use Rattle.database_layout.specs.Layout.{has_inbox}
use Rattle.inbox_table.specs.Calls.{Adopts, Creates, IsAsItWas, IsSettled, IsTold, MayMake, MayUpgrade, Rejects}
use Rattle.inbox_table.specs.Rows.{IsInbox, IsOldInbox}
use Rattle.inbox_table.specs.declared.fault.TableFault.{TableFault}
use Rattle.inbox_table.specs.declared.fault.TableFault.TheVariants.{Foreign}

-- an opening of an inbox's table with these events, while the disk gives back what was written
pub record Opens (tells : ℕ → ℕ → Type 0) (old new : State) (events : List EventValue)
    : Type 0 where
  -- where a table of either name was there, it was taken over with them
  pub adopts : has_inbox old.now.schema ≡ true → Adopts old new events
  -- and of one of version 1 the watch was told, after each thousand, how many were in
  pub told : IsOldInbox old.now events → IsTold tells (length events)
  -- where none was there, it was made, and they are none
  pub creates : has_inbox old.now.schema ≡ false → Creates old new
  pub none : has_inbox old.now.schema ≡ false → events ≡ []
  -- it is of version 2
  pub is : IsInbox new.now events
  pub stays_open : IsTrue new.is_open
  -- a crash leaves just that
  pub settled : IsSettled new

-- an opening of the inbox's table is refused for this fault
pub record RejectsOpening (old new : State) (fault : TableFault) : Type 0 where
  -- where a table of either name was there, as a taking over is
  pub rejects : has_inbox old.now.schema ≡ true → Rejects old new fault
  -- `Foreign` only there
  pub foreign : fault ≡ Foreign → has_inbox old.now.schema ≡ true
  -- the database is as it was
  pub same : IsAsItWas old new

-- these are the trees of a database in which the inbox's table was made where none was there, or
-- one of version 1 gave way to it
abbrev pub MayOpen : Database → Trees → Type 0
MayOpen old trees = ((has_inbox old.schema ≡ false) × MayMake old trees)
    ⊎ ((has_inbox old.schema ≡ true) × MayUpgrade old trees)

-- what a crash may leave of an opening of the inbox's table, done or refused
abbrev pub LeavesOpening : State → State → Type 0
LeavesOpening old new = Survives old new (MayOpen old.now)
