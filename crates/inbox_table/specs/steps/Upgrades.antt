-- An upgrade, and what a taking over gives.
use Rattle.std.specs.Prelude.{◌≡◌, ℕ, Bool, List, length, IsTrue}
use Rattle.sqlite.specs.Effect.{Database, IsDatabase}
use Rattle.sqlite.specs.State.{State}
use Rattle.attributes.specs.Event.{EventValue}
use Rattle.inbox_table.specs.Beside.{UpgradesTables}
use Rattle.inbox_table.specs.Calls.{Adopts}
use Rattle.inbox_table.specs.Rows.{AreNumbered, IsEachOnce, IsInbox}

-- within a transaction an inbox of version 2 with these events took the place of one of version 1
pub record Refills (events : List EventValue) (old new : State) : Type 0 where
  pub table : AreNumbered events → IsEachOnce events → IsInbox new.now events
  pub beside : UpgradesTables old.now new.now
  pub sound : IsDatabase new.now
  pub was_open : IsTrue new.is_open → IsTrue old.is_open
  pub committed : new.committed ≡ old.committed
  pub mode : IsTrue new.in_transaction

-- and so the upgrade of the inbox's table was committed
pub record Copies (events : List EventValue) (old : Database) (new : State) : Type 0 where
  pub table : IsInbox new.now events
  pub beside : UpgradesTables old new.now
  pub stays_open : IsTrue new.is_open
  pub committed : new.committed ≡ new.now

-- an inbox's table was taken over that has so many rows; the batch has their events where these
-- were to be kept
pub record HasAdopted (keeps : Bool) (old new : State) (rows : ℕ) (batch : List EventValue)
    : Type 0 where
  pub events : List EventValue
  pub adopts : Adopts old new events
  pub count : rows ≡ length events
  pub kept : IsTrue keeps → batch ≡ events
