-- What the statements change and show.
use Rattle.std.specs.Prelude.{◌≡◌, ℕ, suc, pos, ◌+◌, List, [], ◌∷◌, ◌++◌, length, Some, None}
use Rattle.sqlite_trees.specs.Tree.{Trees}
use Rattle.sqlite_value.specs.Order.{Row}
use Rattle.sqlite_value.specs.declared.value.Value.TheVariants.{Int, Text as Words}
use Rattle.sqlite_rules.specs.Lists.{Has}
use Rattle.sqlite.specs.Effect.{Database, IsDatabase}
use Rattle.sqlite.specs.State.{State}
use Rattle.outbox.specs.Order.{Accepted, IsCommand, status_of, refusal}
use Rattle.database_layout.specs.Beside.{KeepsBeside}
use Rattle.outbox.specs.Service.{IsService, code}
use Rattle.outbox.specs.declared.status.Status.{Status}

-- the database of an outbox has one more command, and the inbox beside it is as it was
pub record HasAdded (source : List ℕ) (base : ℕ) (commands : List Accepted) (c : Accepted)
    (old new : Database) : Type 0 where
  pub service : IsService new source base (commands ++ c ∷ [])
  pub beside : KeepsBeside old new
  pub sound : IsDatabase new

-- an outbox's database has one more command, whatever commands the service accepted
abbrev pub AddsCommand : ℕ → Accepted → Database → Database → Type 0
AddsCommand number c old new = (source : List ℕ) (base : ℕ) (commands : List Accepted)
    → number ≡ suc (base + length commands) → IsCommand c
    → refusal base commands c.status c.order ≡ None
    → IsService old source base commands → HasAdded source base commands c old new

-- what a crash may find in place of the old commit while an outbox adds a command
abbrev pub MayAdd : ℕ → Accepted → State → Trees → Type 0
MayAdd number c old trees = (db : Database) × AddsCommand number c old.now db × (trees ≡ db.trees)

-- what the rows of the question for an order's status tell
abbrev pub TellsStatus : List Accepted → ℕ → List Row → Type 0
TellsStatus commands order [] = status_of commands order ≡ None
TellsStatus commands order (row ∷ more) =
    (s : Status) × (row ≡ Int (pos (code s)) ∷ []) × (status_of commands order ≡ Some s)

-- a row of `outbox` as it is read, and those whose numbers run from this one on
abbrev pub stored_row : ℕ → Accepted → Row
stored_row number c =
    Int (pos number) ∷ Int (pos (code c.status)) ∷ Int (pos c.order) ∷ Words c.at ∷ []

abbrev pub stored_rows : ℕ → List Accepted → List Row
stored_rows number [] = []
stored_rows number (c ∷ commands) = stored_row number c ∷ stored_rows (suc number) commands

-- a row of `orders` as it is read
abbrev pub stored_order : ℕ → Status → Row
stored_order order status = Int (pos order) ∷ Int (pos (code status)) ∷ []

-- the row of an outbox's `service` as it is read
abbrev pub shown_service : List ℕ → ℕ → Row
shown_service source base = Int (pos 1) ∷ Words source ∷ Int (pos base) ∷ []

-- the rows that are shown are those of each order and its status
pub record ShowOrders (rows : List Row) (commands : List Accepted) : Type 0 where
  pub sound : (r : Row) → Has rows r
      → (order : ℕ) × (status : Status)
      × (r ≡ stored_order order status) × (status_of commands order ≡ Some status)
  pub complete : (order : ℕ) (status : Status) → status_of commands order ≡ Some status
      → Has rows (stored_order order status)
