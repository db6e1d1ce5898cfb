-- The two versions of the table.
use Rattle.std.specs.Prelude.{ℕ, List, codes}
use Rattle.sqlite_schema.specs.declared.schema.Column.{Column}
use Rattle.sqlite_schema.specs.declared.schema.Table.{Table}
use Rattle.database_layout.specs.Layout.{HasInbox, HasInbox2}
use Rattle.database_layout.specs.Tables.{inbox_columns, inbox2_columns, keyed}
use Rattle.database_layout.specs.declared.layout.Layout.{Layout}
use Rattle.inbox_table.specs.declared.version.Version.{Version}
use Rattle.inbox_table.specs.declared.version.Version.TheVariants.{One, Two}

-- the name and the columns of the inbox's table in a version
abbrev pub name_of : Version → List ℕ
name_of One = codes "inbox"
name_of Two = codes "inbox2"

abbrev pub columns_of : Version → List Column
columns_of One = inbox_columns
columns_of Two = inbox2_columns

-- the inbox's table in a version, with its rows in this tree
abbrev pub table_of : Version → ℕ → Table
table_of v = keyed (name_of v) (columns_of v)

-- the inbox's table in this version is among the tables
abbrev pub HasTable : Version → Layout → Type 0
HasTable One l = HasInbox l
HasTable Two l = HasInbox2 l
