-- What stands beside the table that a call makes or writes.
use Rattle.std.specs.Prelude.{◌≡◌, suc}
use Rattle.sqlite.specs.Effect.{Database}
use Rattle.database_layout.specs.Layout.{GainsInbox2, HasInbox, HasService, schema_in, service_tree}
use Rattle.database_layout.specs.Making.{upgraded}
use Rattle.database_layout.specs.declared.layout.Layout.{Layout}

-- beside the inbox the three tables of a service have the rows that they had
pub record HasSameService (before after : Layout) (old new : Database) : Type 0 where
  pub service : new.trees (service_tree after) ≡ old.trees (service_tree before)
  pub orders : new.trees (suc (service_tree after)) ≡ old.trees (suc (service_tree before))
  pub outbox : new.trees (suc (suc (service_tree after)))
      ≡ old.trees (suc (suc (service_tree before)))

-- the tables are the same, and a service beside the inbox has the rows that it had
pub record KeepsServiceBeside (old new : Database) : Type 0 where
  pub schema : new.schema ≡ old.schema
  pub service : (l : Layout) → HasService l → old.schema ≡ schema_in l → HasSameService l l old new

-- an inbox of version 2 was made beside what was there, and a service has the rows that it had
pub record GainsInbox (old new : Database) : Type 0 where
  pub before : Layout
  pub after : Layout
  pub gains : GainsInbox2 before after
  pub was : old.schema ≡ schema_in before
  pub is : new.schema ≡ schema_in after
  pub service : HasService before → HasSameService before after old new

-- the inbox of version 2 was made in the place of one of version 1
pub record UpgradesTables (old new : Database) : Type 0 where
  pub before : Layout
  pub has : HasInbox before
  pub was : old.schema ≡ schema_in before
  pub is : new.schema ≡ schema_in (upgraded before)
  pub service : HasService before → HasSameService before (upgraded before) old new
