-- What a numberer's look at its table tells.
use Rattle.std.specs.Prelude.{◌≡◌, ℕ, List, Some, IsTrue}
use Rattle.sqlite.specs.State.{State, HasCleanDisk, Survives}
use Rattle.attributes.specs.Event.{EventValue}
use Rattle.numbers.specs.Counts.{Counts, KnowsOnly, Learns, TextNumbers}
use Rattle.number_table.specs.Calls.{StandsNumbered, from}

-- events were looked up in a numberer's table, which leaves the database as it was
pub record LooksUp (old new : State) : Type 0 where
  pub survives : Survives old new (λ _. ⊥)
  pub was_open : HasCleanDisk new → IsTrue new.is_open → IsTrue old.is_open
  pub same : HasCleanDisk new → IsTrue new.is_open → new.now ≡ old.now

-- whatever the numberer over this table has numbered, it is known now of which events of L, and
-- with which numbers
abbrev pub LearnsNumbers : List EventValue → State → Counts → TextNumbers → TextNumbers → Type 0
LearnsNumbers L s counts was is = (base : ℕ) (events rows : List EventValue)
    → StandsNumbered base events rows s (Some counts) → KnowsOnly (from base) events was
    → Learns (from base) events L was is
