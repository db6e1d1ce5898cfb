-- Rows that are those of accepted commands.
use Rattle.std.specs.Prelude.{◌≡◌, ◌⊎◌, Some, None, ◌≤◌, ℕ, suc, ◌+◌, List, [], length, take}
use Rattle.std.specs.BTreeMap.{get}
use Rattle.std.specs.BTreeMap.{BTreeMap}
use Rattle.std.specs.Ordering.{nat_cmp}
use Rattle.sqlite_value.specs.Order.{Row}
use Rattle.attributes.specs.Sequence.{max_sequence}
use Rattle.outbox.specs.Order.{Accepted, orders_of, status_of, AreAccepted}
use Rattle.outbox.specs.declared.status.Status.{Status}
use Rattle.outbox.specs.steps.Change.{stored_rows, stored_order}
use Rattle.sqlite_rules.specs.Lists.{Has}
use Rattle.outbox.specs.declared.adoption.Replayed.{Replayed}

-- the outbox rows are those of commands, each accepted after those before it, and these are the
-- statuses, how many orders there are, and the last number
pub record IsReplay (base : ℕ) (rows : List Row) (r : Replayed) : Type 0 where
  pub commands : List Accepted
  pub rows_are : rows ≡ stored_rows (suc base) commands
  pub accepted : AreAccepted base [] commands
  pub statuses : (order : ℕ) → get nat_cmp r.statuses order ≡ status_of commands order
  pub orders : r.orders ≡ length (orders_of commands)
  pub last : r.last ≡ base + length commands

-- a replay so far: of the first outbox rows the same holds as in the end of all
pub record HasReplayed (base : ℕ) (rows : List Row) (at : ℕ) (m : BTreeMap ℕ Status)
    (orders last : ℕ) : Type 0 where
  pub commands : List Accepted
  pub rows_are : take at rows ≡ stored_rows (suc base) commands
  pub accepted : AreAccepted base [] commands
  pub statuses : (order : ℕ) → get nat_cmp m order ≡ status_of commands order
  pub orders_are : orders ≡ length (orders_of commands)
  pub few : base + orders ≤ last
  pub last_is : last ≡ base + length commands
  pub high : last ≤ max_sequence

-- of the orders' statuses, these are left, and just the others have their rows among the first
pub record HasMatched (rows : List Row) (at : ℕ) (all left : BTreeMap ℕ Status) : Type 0 where
  pub sound : (r : Row) → Has (take at rows) r
      → (order : ℕ) × (status : Status)
      × (r ≡ stored_order order status) × (get nat_cmp all order ≡ Some status)
  pub rest : (order : ℕ) (status : Status) → get nat_cmp all order ≡ Some status
      → (get nat_cmp left order ≡ Some status) ⊎ Has (take at rows) (stored_order order status)
  pub within : (order : ℕ) (status : Status) → get nat_cmp left order ≡ Some status
      → get nat_cmp all order ≡ Some status
  pub gone : (order : ℕ) (status : Status) → Has (take at rows) (stored_order order status)
      → get nat_cmp left order ≡ None
