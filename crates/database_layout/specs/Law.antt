-- What holds of the tables of a file, whatever was done.
use Rattle.std.specs.Prelude.{◌≡◌}
use Rattle.sqlite.specs.Effect.{Database, IsDatabase}

-- two databases with the same trees are one: what a crash leaves of a file tells which tables it
-- has
abbrev pub TreesTellTables : Type 0
TreesTellTables = (db again : Database) → IsDatabase db → IsDatabase again
    → again.trees ≡ db.trees → again ≡ db
