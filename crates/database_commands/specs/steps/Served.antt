-- A service that was given a command, or read.
use Rattle.std.specs.Prelude.{◌≡◌, ◌⊎◌, ℕ, List, IsTrue}
use Rattle.sqlite_trees.specs.Tree.{Trees}
use Rattle.sqlite.specs.State.{State, HasCleanDisk}
use Rattle.outbox.specs.Call.{MayAccept}
use Rattle.outbox.specs.Layout.{ServiceLayout, schema_in_layout}
use Rattle.outbox.specs.Order.{Accepted}

-- a crash leaves what it could leave before, or the database's service with the command
abbrev pub LeavesOrAccepts : List ℕ → ℕ → Accepted → State → State → Type 0
LeavesOrAccepts source base c old new = HasCleanDisk new → IsTrue old.is_open → (db : Trees)
    → new.may_leave db → old.may_leave db ⊎ MayAccept source base c old.now db

-- an open service of a database was read: a crash leaves what it could leave before
abbrev pub LeavesRead : State → State → Type 0
LeavesRead old new = HasCleanDisk new → IsTrue old.is_open → (layout : ServiceLayout)
    → old.now.schema ≡ schema_in_layout layout → (db : Trees) → new.may_leave db → old.may_leave db
