-- What stands beside the tables that a call writes.
use Rattle.std.specs.Prelude.{◌≡◌, ◌⊎◌}
use Rattle.sqlite.specs.Effect.{Database}
use Rattle.database_layout.specs.Layout.{GainsService, HasInbox, HasInbox2, inbox_tree, schema_in}
use Rattle.database_layout.specs.declared.layout.Layout.{Layout}

-- an inbox is among the tables of the file, of either version
abbrev pub HasAnyInbox : Layout → Type 0
HasAnyInbox l = HasInbox l ⊎ HasInbox2 l

-- the file's tables are the same, and an inbox beside a service has the rows that it had
pub record KeepsBeside (old new : Database) : Type 0 where
  pub schema : new.schema ≡ old.schema
  pub inbox : (l : Layout) → HasAnyInbox l → old.schema ≡ schema_in l
      → new.trees (inbox_tree l) ≡ old.trees (inbox_tree l)

-- the tables of a service were made beside what was there, and an inbox has the rows that it had
pub record GainsTables (old new : Database) : Type 0 where
  pub before : Layout
  pub after : Layout
  pub gains : GainsService before after
  pub was : old.schema ≡ schema_in before
  pub is : new.schema ≡ schema_in after
  pub inbox : HasAnyInbox before → new.trees (inbox_tree after) ≡ old.trees (inbox_tree before)
