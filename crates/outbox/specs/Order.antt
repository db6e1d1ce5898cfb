-- Orders, the commands that a service accepts, and why it refuses one.
use Rattle.std.specs.Prelude.{◌≡◌, ◌≢◌, ⊤, IsUtf8, ℕ, ◌+◌, ◌≤◌, ◌==◌, List, [], ◌∷◌, ◌++◌, flat_map, length, fold, Option, Some, None, if◌then◌else◌}
use Rattle.std.specs.Option.{option_or}
use Rattle.attributes.specs.Sequence.{max_sequence}
use Rattle.attributes.specs.Time.{time_day}
use Rattle.outbox.specs.declared.status.Status.{Status}
use Rattle.outbox.specs.declared.status.Status.TheVariants.{Placed, Shipped, Cancelled}
use Rattle.outbox.specs.declared.fault.OutboxFault.{OutboxFault}
use Rattle.outbox.specs.declared.fault.OutboxFault.TheVariants.{OrderExists, NoOrder, WrongState, Full}

-- an accepted command: at that time the order got that status
pub record Accepted : Type 0 where
  pub status : Status
  pub order : ℕ
  pub at : List ℕ

-- an order of an outbox may have this number
abbrev pub IsOrder : ℕ → Type 0
IsOrder order = (1 ≤ order) × (order ≤ max_sequence)

-- the time of a command on an order has at most 64 bytes
abbrev pub IsShortTime : List ℕ → Type 0
IsShortTime at = length at ≤ 64

-- the order is in 1..=2^63-1, and the time is a text, one of RFC 3339, and has at most 64 bytes
pub record IsCommand (c : Accepted) : Type 0 where
  pub low : 1 ≤ c.order
  pub high : c.order ≤ max_sequence
  pub text : IsUtf8 c.at
  pub time : time_day c.at ≢ None
  pub short : length c.at ≤ 64

-- the status of an order: that of the last command on it
abbrev pub status_of : List Accepted → ℕ → Option Status
status_of commands order =
    fold (λ s c. if c.order == order then Some c.status else s) None commands

-- the order that a command with this status places, where it places one
abbrev pub placed_by : Status → ℕ → List ℕ
placed_by Placed order = order ∷ []
placed_by Shipped order = []
placed_by Cancelled order = []

-- the orders of a service: those that its commands placed, as they came
abbrev pub orders_of : List Accepted → List ℕ
orders_of commands = flat_map (λ c. placed_by c.status c.order) commands

-- an order is placed once, and leaves the status Placed once
abbrev pub status_fault : Status → Option Status → Option OutboxFault
status_fault Placed None = None
status_fault Placed (Some s) = Some OrderExists
status_fault Shipped None = Some NoOrder
status_fault Shipped (Some Placed) = None
status_fault Shipped (Some Shipped) = Some WrongState
status_fault Shipped (Some Cancelled) = Some WrongState
status_fault Cancelled None = Some NoOrder
status_fault Cancelled (Some Placed) = None
status_fault Cancelled (Some Shipped) = Some WrongState
status_fault Cancelled (Some Cancelled) = Some WrongState

-- why a service with this base and these commands refuses one more: first for the order's status,
-- then since no number is left
abbrev pub refusal : ℕ → List Accepted → Status → ℕ → Option OutboxFault
refusal base commands status order =
    option_or (status_fault status (status_of commands order))
    (if base + length commands == max_sequence then Some Full else None)

-- each is a command on an order, and is accepted after those before it
abbrev pub AreAccepted : ℕ → List Accepted → List Accepted → Type 0
AreAccepted base before [] = ⊤
AreAccepted base before (c ∷ after) =
    IsCommand c × (refusal base before c.status c.order ≡ None)
    × AreAccepted base (before ++ c ∷ []) after
