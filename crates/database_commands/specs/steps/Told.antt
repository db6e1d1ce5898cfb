-- What is told of a service, and of a list of events.
use Rattle.std.specs.Prelude.{◌≡◌, ℕ, Bool, List, [], length, IfSome, IsTrue, Option}
use Rattle.sqlite.specs.Effect.{Database}
use Rattle.sqlite.specs.State.{State, HasCleanDisk}
use Rattle.attributes.specs.Event.{EventValue}
use Rattle.inbox.specs.KeyOrder.{key_cmp}
use Rattle.inbox.specs.Ordered.{append_new}
use Rattle.outbox.specs.Order.{Accepted}
use Rattle.outbox.specs.Service.{IsService}
use Rattle.outbox.specs.Shown.{CountsOrders, CountsRows}
use Rattle.databases.specs.Described.{CountsSources}
use Rattle.databases.specs.Print.{database_line, service_line}
use Rattle.databases.specs.Service.{TellsService}

-- a database's service with this source and base has so many orders and so many rows
abbrev pub CountsService : State → List ℕ → ℕ → ℕ → ℕ → Type 0
CountsService s source base orders rows = HasCleanDisk s → IsTrue s.is_open
    → CountsOrders s.now source base orders × CountsRows s.now source base rows

-- the text is the line of a database's service with this source and base, as is asked for
pub record IsLineOf (s : State) (source : List ℕ) (base : ℕ) (is_named : Bool) (given : List ℕ)
    (start : Option ℕ) (text : List ℕ) : Type 0 where
  pub orders : ℕ
  pub rows : ℕ
  pub line : text ≡ service_line source base orders rows
  pub counts : CountsService s source base orders rows
  pub meant : IsTrue is_named → source ≡ given
  pub at : IfSome start (λ n. base ≡ n)

-- the text tells of each service that the database may stand for
abbrev pub TellsEach : Database → List ℕ → Type 0
TellsEach db text = (source : List ℕ) (base : ℕ) (commands : List Accepted)
    → IsService db source base commands → TellsService source base commands text

-- the text is the line of a database's inbox with these events, whose version has this number
abbrev pub TellsInboxLine : List ℕ → List EventValue → ℕ → List ℕ → Type 0
TellsInboxLine name events version text = (n : ℕ) × CountsSources (append_new key_cmp [] events) n
    × (text ≡ database_line name (length events) n version)
