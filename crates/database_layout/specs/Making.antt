-- What makes and drops tables in a transaction.
use Rattle.std.specs.Prelude.{◌≡◌, ℕ, suc, List, [], ◌∷◌, ◌++◌, IsTrue}
use Rattle.std.specs.List.{AllByRecursion}
use Rattle.sqlite_schema.specs.declared.schema.Schema.{Schema}
use Rattle.sqlite_catalog.specs.Change.{KeepsRows}
use Rattle.sqlite.specs.Effect.{IsDatabase}
use Rattle.sqlite.specs.State.{State}
use Rattle.database_layout.specs.Layout.{schema_of, service_tables, service_tree}
use Rattle.database_layout.specs.Tables.{inbox, inbox2, inbox2_index, inbox_index}
use Rattle.database_layout.specs.declared.layout.Layout.{Layout}
use Rattle.database_layout.specs.declared.layout.Layout.TheVariants.{Inbox, InboxService, ServiceInbox, Upgraded, ServiceUpgraded, ShiftedUpgraded}

-- CREATE or DROP in a transaction made the one schema of the other; the tables that both have keep
-- their rows
pub record Changes (before after : Schema) (kept : Schema) (old new : State) : Type 0 where
  pub schema : new.now.schema ≡ after
  pub rows : KeepsRows kept.tables old.now.trees new.now.trees
  pub sound : IsDatabase new.now
  pub was_open : IsTrue new.is_open → IsTrue old.is_open
  pub committed : new.committed ≡ old.committed
  pub mode : IsTrue new.in_transaction

-- the trees of these tables were made by CREATE, and are empty
pub record Makes (before after : Schema) (made : List ℕ) (old new : State) : Type 0 where
  pub changed : Changes before after before old new
  pub empty : AllByRecursion (λ t. new.now.trees t ≡ []) made

-- the trees of the tables of a service in this layout
abbrev pub service_trees : Layout → List ℕ
service_trees l = service_tree l ∷ suc (service_tree l) ∷ suc (suc (service_tree l)) ∷ []

-- the layout once an inbox of version 2 has taken the place of one of version 1
abbrev pub upgraded : Layout → Layout
upgraded Inbox = Upgraded
upgraded InboxService = ShiftedUpgraded
upgraded ServiceInbox = ServiceUpgraded
upgraded l = l

-- the schema while the inboxes of both versions are there
abbrev pub both_in : Layout → Schema
both_in InboxService =
    schema_of (inbox 0 ∷ service_tables 2 ++ inbox2 5 ∷ [])
    (inbox_index 0 ∷ inbox2_index 5 ∷ [])
both_in ServiceInbox =
    schema_of (service_tables 0 ++ inbox 3 ∷ inbox2 5 ∷ [])
    (inbox_index 3 ∷ inbox2_index 5 ∷ [])
both_in _ = schema_of (inbox 0 ∷ inbox2 2 ∷ []) (inbox_index 0 ∷ inbox2_index 2 ∷ [])
