-- The tables of a service and of an inbox, as the schema of a database has them (SQLite, "CREATE
-- TABLE": rowid tables, INTEGER PRIMARY KEY, UNIQUE, CHECK; "STRICT Tables").
use Rattle.std.specs.Prelude.{ℕ, suc, pos, Bool, true, false, List, [], ◌∷◌, codes, Some}
use Rattle.sqlite_value.specs.declared.keys.Collation.TheVariants.{Binary}
use Rattle.sqlite_value.specs.declared.value.Value.TheVariants.{Null, Int}
use Rattle.sqlite_sql.specs.Term.{Term, lit, col, op2}
use Rattle.sqlite_sql.specs.declared.ops.BinaryOp.TheVariants.{Compare, And}
use Rattle.sqlite_sql.specs.declared.ops.CompareOp.TheVariants.{Eq, Ge, Le}
use Rattle.sqlite_schema.specs.declared.schema.Column.{Column}
use Rattle.sqlite_schema.specs.declared.schema.Index.{Index}
use Rattle.sqlite_schema.specs.declared.schema.Kind.{Kind}
use Rattle.sqlite_schema.specs.declared.schema.Kind.TheVariants.{Integer, Text}
use Rattle.sqlite_schema.specs.declared.schema.Table.{Table}

-- a column of a STRICT table of ours, without a default, compared by bytes
abbrev pub column : List ℕ → Kind → Bool → Column
column name kind not_null = record {
  name = name;
  kind = kind;
  is_strict = true;
  not_null = not_null;
  default = Null;
  collation = Binary;
}

-- the column of an INTEGER PRIMARY KEY in a table of ours, and one that is NOT NULL
abbrev pub key_column : List ℕ → Column
key_column name = column name Integer false

abbrev pub filled_column : List ℕ → Kind → Column
filled_column name kind = column name kind true

-- a STRICT table of ours whose first column is the INTEGER PRIMARY KEY, with these CHECKs and no
-- UNIQUE; its rows lie in this tree
abbrev pub table : List ℕ → ℕ → List Column → List Term → Table
table name tree columns checks = record {
  name = name;
  tree = tree;
  columns = columns;
  key = Some 0;
  primary = 0 ∷ [];
  uniques = [];
  orders = [];
  checks = checks;
  references = [];
  computed = [];
  stamps = record { places = []; terms = []; formats = [] };
  is_counted = false;
}

-- ---- a service

-- a CHECK of a table: the column holds 1, 2 or 3
abbrev pub is_status : ℕ → Term
is_status place = op2 And (op2 (Compare Ge Binary) (col 1 place) (lit (Int (pos 1))))
    (op2 (Compare Le Binary) (col 1 place) (lit (Int (pos 3))))

-- the table `service`: its source, and the number before that of its first row; one row
abbrev pub service : ℕ → Table
service tree = table (codes "service") tree
    (key_column (codes "one") ∷ filled_column (codes "source") Text
    ∷ filled_column (codes "base") Integer ∷ [])
    (op2 (Compare Eq Binary) (col 1 0) (lit (Int (pos 1)))
    ∷ op2 (Compare Ge Binary) (col 1 3) (lit (Int (pos 0))) ∷ [])

-- the table `orders`: the orders and the status of each
abbrev pub orders : ℕ → Table
orders tree = table (codes "orders") tree
    (key_column (codes "number") ∷ filled_column (codes "state") Integer ∷ [])
    (is_status 2 ∷ [])

-- the table `outbox`: the accepted commands
abbrev pub outbox : ℕ → Table
outbox tree = table (codes "outbox") tree
    (key_column (codes "number") ∷ filled_column (codes "kind") Integer
    ∷ filled_column (codes "order_number") Integer ∷ filled_column (codes "at") Text ∷ [])
    (is_status 2 ∷ [])

-- ---- an inbox

-- where a row of the inbox has source, id and text, which its UNIQUE names
abbrev pub key_places : List ℕ
key_places = 2 ∷ 3 ∷ 5 ∷ []

-- the columns of the inbox of version 1: the place in the table, and of the event the source, the
-- id, the number and the canonical text
abbrev pub inbox_columns : List Column
inbox_columns =
    key_column (codes "place")
    ∷ filled_column (codes "source") Text
    ∷ filled_column (codes "id") Text
    ∷ filled_column (codes "number") Integer
    ∷ filled_column (codes "body") Text
    ∷ []

-- the columns of the inbox of version 2, which has the block of the number too
abbrev pub inbox2_columns : List Column
inbox2_columns =
    key_column (codes "place")
    ∷ filled_column (codes "source") Text
    ∷ filled_column (codes "id") Text
    ∷ filled_column (codes "number") Integer
    ∷ filled_column (codes "body") Text
    ∷ filled_column (codes "block") Integer
    ∷ []

-- a table of the file with this name, these columns, and UNIQUE (source, id, body)
abbrev pub keyed : List ℕ → List Column → ℕ → Table
keyed name columns tree = record (table name tree columns []) {
  uniques = key_places ∷ [];
  orders = record { digits = 0 } ∷ [];
}

-- the table of the inbox of version 1, and of version 2
abbrev pub inbox : ℕ → Table
inbox = keyed (codes "inbox") inbox_columns

abbrev pub inbox2 : ℕ → Table
inbox2 = keyed (codes "inbox2") inbox2_columns

-- the index with this name, which SQLite makes for the UNIQUE of an inbox's table; it lies in the
-- tree behind the table's
abbrev pub key_index : List ℕ → ℕ → Index
key_index name tree = record {
  name = name;
  tree = suc tree;
  table = tree;
  columns = key_places;
  order = record { digits = 0 };
  is_unique = true;
}

abbrev pub inbox_index : ℕ → Index
inbox_index = key_index (codes "sqlite_autoindex_inbox_1")

abbrev pub inbox2_index : ℕ → Index
inbox2_index = key_index (codes "sqlite_autoindex_inbox2_1")
