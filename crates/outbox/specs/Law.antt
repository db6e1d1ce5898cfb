-- What holds of services, whatever was done.
use Rattle.std.specs.Prelude.{◌≡◌, ◌⊎◌, ◌==◌, ℕ, List, [], ◌∷◌, ◌++◌, count_by, if◌then◌else◌, is_some}
use Rattle.sqlite.specs.Effect.{Database, IsDatabase}
use Rattle.outbox.specs.Call.{IsFounded, MayAccept, MayFound}
use Rattle.outbox.specs.Order.{Accepted, AreAccepted, orders_of, status_of}
use Rattle.outbox.specs.Service.{IsService}

-- a command was given to a service with these commands, and stopped at any write: what it left is
-- what was there, or what a commit of the command makes. The database that is opened again is that
-- of the service with the commands of before, or with them and the one that was given
abbrev pub StopsLeaveAService : Type 0
StopsLeaveAService = (source : List ℕ) (base : ℕ) (commands : List Accepted) (c : Accepted)
    (old again : Database) → IsDatabase old → IsDatabase again
    → IsService old source base commands
    → (again.trees ≡ old.trees) ⊎ MayAccept source base c old again.trees
    → IsService again source base commands ⊎ IsService again source base (commands ++ c ∷ [])

-- a service was being made with this source and base, and stopped at any write: what it left is
-- what was there, or what the commit makes. The database that is opened again is the one of before,
-- or has the service with that source and base and no commands, beside what was there
abbrev pub StopsLeaveANewServiceOrNone : Type 0
StopsLeaveANewServiceOrNone = (source : List ℕ) (base : ℕ) (old again : Database)
    → IsDatabase old → IsDatabase again
    → (again.trees ≡ old.trees) ⊎ MayFound source base old again.trees
    → (again ≡ old) ⊎ IsFounded source base old again

-- of commands that an outbox accepted one after another, the orders are those that have a status,
-- each once
abbrev pub OrdersHaveAStatus : Type 0
OrdersHaveAStatus = (base : ℕ) (commands : List Accepted) → AreAccepted base [] commands
    → (order : ℕ) → count_by (λ n. n == order) (orders_of commands)
    ≡ (if is_some (status_of commands order) then 1 else 0)
