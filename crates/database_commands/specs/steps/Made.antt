-- What a command makes of the events that a database holds.
use Rattle.std.specs.Prelude.{◌≡◌, ◌⊎◌, true, List, Result, Ok, Err, IfErr, IfOk, IsErrOf, IsTrue, OnOk}
use Rattle.sqlite.specs.State.{State, HasCleanDisk, Survives}
use Rattle.attributes.specs.Event.{EventValue}
use Rattle.inbox_table.specs.Calls.{has_both}
use Rattle.outbox.specs.Call.{IsSettled}
use Rattle.databases.specs.Held.{IsNoInbox, IsUntold, KeepsEvents, KeepsRows, MayHold, ShowsEvents}
use Rattle.databases.specs.declared.fault.CommandFault.{CommandFault}
use Rattle.databases.specs.declared.fault.CommandFault.TheVariants.{Foreign, OutOfMemory}

module _ {A B : Type 0} where
  -- what was made comes of what was given, where that was to be had; else it is refused so. It is
  -- refused for nothing else but want of memory
  pub record IsMadeOf (given : Result A CommandFault) (Is : A → B → Type 0)
      (made : Result B CommandFault) : Type 0 where
    pub of : IfOk made (λ b. (a : A) × (given ≡ Ok a) × Is a b)
    pub refused : (f : CommandFault) → given ≡ Err f → made ≡ Err f
    pub why : IfErr made (λ f. (given ≡ Err f) ⊎ (f ≡ OutOfMemory))

-- a command opened, or made, and let go the table of a database, and this is what it holds
pub record ContentsEffect (outcome : Result (List EventValue) CommandFault) (old new : State)
    : Type 0 where
  pub events : HasCleanDisk new → IfOk outcome (ShowsEvents old.now)
  -- whatever came of it, it holds what it held, and a service has its rows
  pub list : HasCleanDisk new → IsTrue new.is_open → KeepsEvents old.now new.now
  pub beside : HasCleanDisk new → IsTrue new.is_open → KeepsRows old.now new.now
  -- answered, a crash leaves just that
  pub stays_open : HasCleanDisk new → OnOk outcome (IsTrue new.is_open)
  pub settled : HasCleanDisk new → OnOk outcome (IsSettled new)
  -- whatever came of it, a crash leaves what it could leave before, or the events that were held
  pub crash : Survives old new (MayHold old.now)
  -- `Foreign` comes only of tables that aren't those of an inbox, and always where both versions
  -- are there
  pub foreign : IfErr outcome (λ f. f ≡ Foreign → HasCleanDisk new → IsNoInbox old.now)
  pub both : has_both old.now.schema ≡ true → IsErrOf outcome Foreign
  pub fault : IfErr outcome IsUntold
