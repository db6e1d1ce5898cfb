-- The texts that make the tables.
use Rattle.std.specs.Prelude.{ℕ, List, codes}

abbrev pub create_service : List ℕ
create_service = codes "CREATE TABLE service (one INTEGER PRIMARY KEY CHECK (one = 1), source TEXT NOT NULL, base INTEGER NOT NULL CHECK (base >= 0)) STRICT"

abbrev pub create_orders : List ℕ
create_orders = codes "CREATE TABLE orders (number INTEGER PRIMARY KEY, state INTEGER NOT NULL CHECK (state >= 1 AND state <= 3)) STRICT"

abbrev pub create_outbox : List ℕ
create_outbox = codes "CREATE TABLE outbox (number INTEGER PRIMARY KEY, kind INTEGER NOT NULL CHECK (kind >= 1 AND kind <= 3), order_number INTEGER NOT NULL, at TEXT NOT NULL) STRICT"

abbrev pub create_inbox2 : List ℕ
create_inbox2 = codes "CREATE TABLE inbox2 (place INTEGER PRIMARY KEY, source TEXT NOT NULL, id TEXT NOT NULL, number INTEGER NOT NULL, body TEXT NOT NULL, block INTEGER NOT NULL, UNIQUE (source, id, body)) STRICT"

-- DROP: removes the table of the inbox of version 1
abbrev pub drop_inbox : List ℕ
drop_inbox = codes "DROP TABLE inbox"
