-- The service of a database, made or told.
use Rattle.std.specs.Prelude.{◌≡◌, ◌≢◌, ◌⊎◌, ℕ, Bool, List, [], length, false, IfSome, IsTrue, Option, None, Some}
use Rattle.sqlite_trees.specs.Tree.{Trees}
use Rattle.sqlite.specs.Effect.{Database}
use Rattle.sqlite.specs.State.{State, HasCleanDisk}
use Rattle.outbox.specs.Call.{MayFound}
use Rattle.outbox.specs.Order.{Accepted, orders_of}
use Rattle.outbox.specs.Service.{IsService}
use Rattle.database_layout.specs.Layout.{has_name}
use Rattle.databases.specs.Print.{service_line}

-- the text tells of a database's service with this source and base, which accepted these commands
abbrev pub TellsService : List ℕ → ℕ → List Accepted → List ℕ → Type 0
TellsService source base commands text =
    text ≡ service_line source base (length (orders_of commands)) (length commands)

-- the database has a service with this source and base, which accepted these commands; or it has no
-- table of a service's names, and then they are those of a new service with what is given
abbrev pub HasOrFounds : Database → List ℕ → ℕ → List ℕ → ℕ → List Accepted → Type 0
HasOrFounds db given start source base commands = IsService db source base commands
    ⊎ ((has_name db.schema ≡ false) × (source ≡ given) × (base ≡ start) × (commands ≡ []))

-- the service that the database had, or that was to be made, is in the new one, and the text tells
-- of it
abbrev pub TellsOrFounds : List ℕ → ℕ → Database → Database → List ℕ → Type 0
TellsOrFounds given start old new text = (source : List ℕ) (base : ℕ) (commands : List Accepted)
    → HasOrFounds old given start source base commands
    → IsService new source base commands × TellsService source base commands text

-- the database is that of a service, and the text tells of it
pub record IsServiceTold (db : Database) (text : List ℕ) : Type 0 where
  pub source : List ℕ
  pub base : ℕ
  pub commands : List Accepted
  pub service : IsService db source base commands
  pub line : TellsService source base commands text

-- a base is given, and it is another than this one of a database's service
abbrev pub IsOtherBase : Option ℕ → ℕ → Type 0
IsOtherBase None base = ⊥
IsOtherBase (Some given) base = base ≢ given

-- the database has a service with another base than the one that is given, and with the source that
-- was named
pub record HasOtherBase (is_named : Bool) (given : List ℕ) (start : Option ℕ) (db : Database)
    : Type 0 where
  pub source : List ℕ
  pub base : ℕ
  pub commands : List Accepted
  pub service : IsService db source base commands
  pub meant : IsTrue is_named → source ≡ given
  pub other : IsOtherBase start base

-- the text tells of some service of a database; where the source was named, it is that one, and so
-- is the base that is given
pub record SaysService (is_named : Bool) (given : List ℕ) (start : Option ℕ) (text : List ℕ)
    : Type 0 where
  pub source : List ℕ
  pub base : ℕ
  pub orders : ℕ
  pub rows : ℕ
  pub meant : IsTrue is_named → source ≡ given
  pub at : IfSome start (λ n. base ≡ n)
  pub line : text ≡ service_line source base orders rows

-- a crash leaves what it could leave before, or that database with a new service beside what it had
abbrev pub LeavesOrFounds : List ℕ → ℕ → State → State → Type 0
LeavesOrFounds given start old new = HasCleanDisk new → (db : Trees) → new.may_leave db
    → old.may_leave db ⊎ MayFound given start old.now db
