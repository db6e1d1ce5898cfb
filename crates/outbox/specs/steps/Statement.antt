-- The texts of the statements.
use Rattle.std.specs.Prelude.{ℕ, List, codes}

abbrev pub found_text : List ℕ
found_text = codes "INSERT INTO service (one, source, base) VALUES (?1, ?2, ?3)"

abbrev pub note_text : List ℕ
note_text = codes "INSERT OR REPLACE INTO orders (number, state) VALUES (?1, ?2)"

abbrev pub append_text : List ℕ
append_text = codes "INSERT INTO outbox (number, kind, order_number, at) VALUES (?1, ?2, ?3, ?4)"

abbrev pub status_text : List ℕ
status_text = codes "SELECT state FROM orders WHERE number = ?1"

abbrev pub page_text : List ℕ
page_text = codes "SELECT number, kind, order_number, at FROM outbox WHERE number > ?1 ORDER BY number LIMIT ?2"

abbrev pub all_rows_text : List ℕ
all_rows_text = codes "SELECT number, kind, order_number, at FROM outbox ORDER BY number"

abbrev pub all_orders_text : List ℕ
all_orders_text = codes "SELECT number, state FROM orders ORDER BY number"

abbrev pub service_row_text : List ℕ
service_row_text = codes "SELECT one, source, base FROM service ORDER BY one"
