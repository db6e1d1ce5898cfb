-- Where the tables of a service lie in a file.
use Rattle.std.specs.Prelude.{◌≢◌, ℕ}
use Rattle.sqlite_schema.specs.declared.schema.Schema.{Schema}
use Rattle.database_layout.specs.Layout.{HasService, schema_in as whole_schema, service_tree}
use Rattle.database_layout.specs.declared.layout.Layout.{Layout}

-- a layout that has an outbox's service
abbrev pub ServiceLayout : Type 0
ServiceLayout = (l : Layout) × HasService l

-- the schema of a file with an outbox's service
abbrev pub schema_in_layout : ServiceLayout → Schema
schema_in_layout l = whole_schema l.0

-- the number of the tree that holds the first of an outbox's three tables; the others' follow it
abbrev pub first_tree : ServiceLayout → ℕ
first_tree l = service_tree l.0

-- the schema is that of no file with an outbox: it has other tables too, or others in their place
abbrev pub IsOthers : Schema → Type 0
IsOthers schema = (l : ServiceLayout) → schema ≢ schema_in_layout l
