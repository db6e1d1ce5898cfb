-- What opening a service does: taking over the one that is there, or making one.
use Rattle.std.specs.Prelude.{◌≡◌, ◌≢◌, ◌⊎◌, ◌≤◌, ℕ, List, true, false, IsTrue}
use Rattle.sqlite_trees.specs.Tree.{Trees}
use Rattle.sqlite_trees.specs.View.{doubt}
use Rattle.sqlite.specs.State.{State, HasCleanDisk}
use Rattle.database_layout.specs.Layout.{has_name, lacks_name}
use Rattle.outbox.specs.Order.{Accepted}
use Rattle.outbox.specs.Service.{IsService}
use Rattle.outbox.specs.Layout.{IsOthers}
use Rattle.outbox.specs.Shown.{HasNoOther, IsNoService, Shown, StandsWithRows}
use Rattle.outbox.specs.Call.{IsAsItWas, IsFounded, IsSettled, Leaves, MayFound}
use Rattle.outbox.specs.declared.fault.OutboxFault.{OutboxFault}
use Rattle.outbox.specs.declared.fault.OutboxFault.TheVariants.{Foreign, OutOfMemory, Store}

-- a crash leaves what it could leave before, or, where no table of an outbox's names was there, the
-- service made
abbrev pub LeavesOrMakes : List ℕ → ℕ → State → State → Type 0
LeavesOrMakes source base old new = HasCleanDisk new → (db : Trees) → new.may_leave db
    → old.may_leave db ⊎ ((has_name old.now.schema ≡ false) × MayFound source base old.now db)

-- an outbox's service was opened, with this source and base where none was there
pub record OpensService {S : Type 0} (source : List ℕ) (base : ℕ) (old : State) (is : Shown S)
    (new : State) : Type 0 where
  -- no fault of the disk is forgotten
  pub clean : doubt old.is_clean ≤ doubt new.is_clean
  -- a table of one of the names was there: nothing is changed, and the source and the base are
  -- those of each service that the database is, whatever was given
  pub left : has_name old.now.schema ≡ true → Leaves old new
  pub exact : HasCleanDisk new → has_name old.now.schema ≡ true
      → HasNoOther old.now is.source is.base
  -- none was there: no service was, and one is made with what was given, and no rows
  pub first : has_name old.now.schema ≡ false → (s : List ℕ) (b : ℕ) (commands : List Accepted)
      → IsService old.now s b commands → ⊥
  pub given : has_name old.now.schema ≡ false
      → (is.source ≡ source) × (is.base ≡ base) × (is.last ≡ base)
  pub made : HasCleanDisk new → has_name old.now.schema ≡ false
      → IsFounded source base old.now new.now
  -- either way the tables are those of the service, the connection is open, and a crash leaves them
  pub stands : HasCleanDisk new → StandsWithRows new.now is.source is.base is.last
  pub stays_open : HasCleanDisk new → IsTrue new.is_open
  pub settled : HasCleanDisk new → IsSettled new
  -- whichever it was, a crash leaves one of the two
  pub crash : LeavesOrMakes source base old new

-- no service of an outbox was opened, for this fault
pub record IsOpeningRefused (source : List ℕ) (base : ℕ) (old new : State) (f : OutboxFault) : Type 0 where
  -- no fault of the disk is forgotten, and the database is as it was
  pub clean : doubt old.is_clean ≤ doubt new.is_clean
  pub same : IsAsItWas old new
  pub crash : LeavesOrMakes source base old new
  -- `Foreign`: a table of one of the names is there, and the database is that of no service
  pub there : f ≡ Foreign → has_name old.now.schema ≡ true
  pub foreign : f ≡ Foreign → HasCleanDisk new → IsNoService old.now
  -- all three are there, and tables that aren't ours, or ours in other places: it isn't `Foreign`
  pub strange : lacks_name old.now.schema ≡ false → IsOthers old.now.schema → f ≢ Foreign
  pub fault : (f ≡ OutOfMemory) ⊎ ((f ≡ Store) ⊎ (f ≡ Foreign))
