-- What is found of a service in files that crashed after a call, wherever that was stopped.
use Rattle.std.specs.Prelude.{◌≡◌, ◌≢◌, ◌⊎◌, ℕ, List, [], ◌∷◌, ◌++◌, true, false, IsTrue}
use Rattle.sqlite_disk.specs.declared.Disk.{Ghosts}
use Rattle.sqlite_store.specs.declared.store.FileStore.{FileStore}
use Rattle.sqlite_trees.specs.Tree.{Trees}
use Rattle.sqlite.specs.Effect.{Database, IsDatabase}
use Rattle.sqlite.specs.Files.{IsCleanLeft, file_state}
use Rattle.sqlite.specs.Held.{Held}
use Rattle.sqlite.specs.State.{HasCleanDisk, State}
use Rattle.database_layout.specs.Layout.{has_name, lacks_name}
use Rattle.outbox.specs.Call.{IsSettled, MayAccept, MayFound}
use Rattle.outbox.specs.Order.{Accepted}
use Rattle.outbox.specs.Service.{IsService}
use Rattle.outbox.specs.Shown.{IsAllowed, Shown}
use Rattle.outbox.specs.declared.fault.OutboxFault.TheVariants.{Foreign}
use Rattle.reopening.specs.Crash.{FailsToReopen}
use Rattle.reopening.specs.declared.services.NoService.{NoService}
use Rattle.reopening.specs.declared.services.NoService.TheVariants as none

-- before a call, and a crash, the database had the service with this source and base, which
-- accepted these commands
pub record HadService (old : State) (source : List ℕ) (base : ℕ) (commands : List Accepted)
    : Type 0 where
  pub is_open : IsTrue old.is_open
  pub sound : IsDatabase old.now
  pub service : IsService old.now source base commands
  -- a crash left it alone, as after each call that answered
  pub settled : IsSettled old

-- and then it was given this command, by a call of `place`, `ship` or `cancel` that came to its end
-- or was stopped at any write: this is `crash` of the clause `effect`
abbrev pub CommandsUntil : State → List ℕ → ℕ → Accepted → State → Type 0
CommandsUntil old source base c stopped = HasCleanDisk stopped → IsTrue old.is_open → (db : Trees)
    → stopped.may_leave db → old.may_leave db ⊎ MayAccept source base c old.now db

-- before a call, and a crash, a table of a service was missing
pub record HadNoService (old : State) : Type 0 where
  pub is_open : IsTrue old.is_open
  pub sound : IsDatabase old.now
  pub service : lacks_name old.now.schema ≡ true
  pub settled : IsSettled old

-- and then `Service::create` or `open` was to make one with this source and base: this follows of
-- `crash` of the one, and of the other's clauses `opened` and `refused`
abbrev pub FoundsUntil : State → List ℕ → ℕ → State → Type 0
FoundsUntil old source base stopped = HasCleanDisk stopped → (db : Trees) → stopped.may_leave db
    → old.may_leave db ⊎ MayFound source base old.now db

-- these are the source, the base and the commands of the service before a crash; or, where no table
-- of one's names was there, those of a new one with what is given
pub record WasService (db : Database) (given : List ℕ) (start : ℕ) (source : List ℕ) (base : ℕ)
    (commands : List Accepted) : Type 0 where
  pub there : has_name db.schema ≡ true → IsService db source base commands
  pub none : has_name db.schema ≡ false → (source ≡ given) × (base ≡ start) × (commands ≡ [])

module _ {S : Type 0} (state : Held S → State) where
  -- from the one connection to the other, a service was opened, or made with what is given, and
  -- given a command, by a call that came to its end or was stopped at any write
  pub record GaveCommand (first : Held S) (given : List ℕ) (start : ℕ) (a : Accepted)
      (last : Held S) : Type 0 where
    pub old : Held S
    pub source : List ℕ
    pub base : ℕ
    pub commands : List Accepted
    -- it had what the database had at first
    pub was : WasService (state first).now given start source base commands
    pub had : HadService (state old) source base commands
    pub until : CommandsUntil (state old) source base a (state last)

module _ {D : Type 0} {g : Ghosts D} (c : Held (FileStore D g)) where
  -- whatever service there was before a call that was given a command and left the connection `c`
  abbrev pub AfterCommand : (List ℕ → ℕ → List Accepted → Accepted → Type 0) → Type 0
  AfterCommand P =
      (old : Held (FileStore D g)) (source : List ℕ) (base : ℕ) (commands : List Accepted)
      (a : Accepted) → HadService (file_state old) source base commands
      → CommandsUntil (file_state old) source base a (file_state c) → P source base commands a

  -- whatever service was to be made by a call that left it
  abbrev pub AfterCreate : (List ℕ → ℕ → Type 0) → Type 0
  AfterCreate P = (old : Held (FileStore D g)) (source : List ℕ) (base : ℕ)
      → HadNoService (file_state old) → FoundsUntil (file_state old) source base (file_state c)
      → P source base

  -- this service is found
  pub record FindsService (s : Shown (FileStore D g)) : Type 0 where
    -- the disk gave back what was written before, too
    pub clean : HasCleanDisk (file_state c)
    -- its commands are those of before the call, or those and the one that it was given
    pub accepted : AfterCommand (λ source base commands a.
        IsService (file_state s.conn).now source base commands
        ⊎ IsService (file_state s.conn).now source base (commands ++ a ∷ []))
    -- and its source and base those of before
    pub named : AfterCommand (λ source base commands a. (s.source ≡ source) × (s.base ≡ base))
    -- where it was being made, it has no commands, and the source and base that were given
    pub founded : AfterCreate (λ source base. IsService (file_state s.conn).now source base [])
    pub given : AfterCreate (λ source base. (s.source ≡ source) × (s.base ≡ base))
    -- the database is open and obeys its own schema, and a crash leaves it alone: so this is the
    -- service that the next command finds
    pub is_open : IsTrue (file_state s.conn).is_open
    pub sound : IsDatabase (file_state s.conn).now
    pub settled : IsSettled (file_state s.conn)

  -- no service is found
  abbrev pub FindsNoService : NoService D g → Type 0
  -- the files weren't opened, for this error
  FindsNoService (none.Unopened e rest) = IsCleanLeft rest → FailsToReopen c rest e
  -- they were: a service that was there before a call isn't taken for something else
  FindsNoService (none.Refused n) = HasCleanDisk (file_state n.conn)
      → AfterCommand (λ source base commands a. IsAllowed source base → n.fault ≢ Foreign)
