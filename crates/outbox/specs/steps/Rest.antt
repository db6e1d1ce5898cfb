-- What a question leaves to be committed.
use Rattle.std.specs.Prelude.{◌≡◌, OnOk, Result}
use Rattle.sqlite.specs.State.{State, HasCleanDisk}
use Rattle.outbox.specs.Layout.{ServiceLayout, schema_in_layout}

-- an outbox's question leaves nothing to be committed, where the tables are those of a service
abbrev pub HasCommitted : State → State → Type 0
HasCommitted old new = (layout : ServiceLayout) → old.now.schema ≡ schema_in_layout layout
    → new.now ≡ new.committed

-- where a question of an outbox was done, nothing of it is left to be committed
abbrev pub CommitsIfDone : {A E : Type 0} → State → State → Result A E → Type 0
CommitsIfDone old new result = HasCleanDisk new → OnOk result (HasCommitted old new)
