-- The database of a service, and the commands that it stands for.
use Rattle.std.specs.Prelude.{◌≡◌, ℕ, suc, pos, List, [], ◌∷◌, Some, IsPermutation}
use Rattle.sqlite_value.specs.declared.value.Value.TheVariants.{Null, Int, Text as Words}
use Rattle.sqlite_value.specs.Order.{Row}
use Rattle.sqlite_rules.specs.Lists.{Has}
use Rattle.sqlite.specs.Effect.{Database}
use Rattle.outbox.specs.Order.{Accepted, status_of, AreAccepted}
use Rattle.outbox.specs.Layout.{ServiceLayout, first_tree, schema_in_layout}
use Rattle.outbox.specs.declared.status.Status.{Status}
use Rattle.outbox.specs.declared.status.Status.TheVariants.{Placed, Shipped, Cancelled}

-- the number of an order's status in the outbox's tables
abbrev pub code : Status → ℕ
code Placed = 1
code Shipped = 2
code Cancelled = 3

-- the row of an outbox's `service`; a row has its rowid first, and NULL for the column that is it
abbrev pub service_row : List ℕ → ℕ → Row
service_row source base = Int (pos 1) ∷ Null ∷ Words source ∷ Int (pos base) ∷ []

-- the row of `orders` for an order and its status
abbrev pub order_row : ℕ → Status → Row
order_row order status = Int (pos order) ∷ Null ∷ Int (pos (code status)) ∷ []

-- the row of `outbox` for the command with this number
abbrev pub outbox_row : ℕ → Accepted → Row
outbox_row number c =
    Int (pos number) ∷ Null ∷ Int (pos (code c.status)) ∷ Int (pos c.order) ∷ Words c.at ∷ []

-- the outbox rows of commands whose numbers run from this one on
abbrev pub outbox_rows : ℕ → List Accepted → List Row
outbox_rows number [] = []
outbox_rows number (c ∷ commands) = outbox_row number c ∷ outbox_rows (suc number) commands

-- the rows of `orders` are those of each order and its status
pub record AreOrders (rows : List Row) (commands : List Accepted) : Type 0 where
  pub sound : (r : Row) → Has rows r
      → (order : ℕ) × (status : Status)
      × (r ≡ order_row order status) × (status_of commands order ≡ Some status)
  pub complete : (order : ℕ) (status : Status) → status_of commands order ≡ Some status
      → Has rows (order_row order status)

-- the database is that of a service with this source and base, which accepted these commands
pub record IsService (db : Database) (source : List ℕ) (base : ℕ) (commands : List Accepted)
    : Type 0 where
  pub layout : ServiceLayout
  pub schema : db.schema ≡ schema_in_layout layout
  pub service : db.trees (first_tree layout) ≡ service_row source base ∷ []
  pub orders : AreOrders (db.trees (suc (first_tree layout))) commands
  pub outbox :
      IsPermutation (outbox_rows (suc base) commands) (db.trees (suc (suc (first_tree layout))))
  pub accepted : AreAccepted base [] commands
