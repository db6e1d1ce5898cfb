-- What a `Service` shows, and what holds of it.
use Rattle.std.specs.Prelude.{◌≡◌, ◌≤◌, ℕ, ◌+◌, List, length, true, IsTrue, IsUtf8, refl}
use Rattle.std.specs.Coded.{Coded, code_by, coded×, coded_ℕ, coded_list}
use Rattle.sqlite.specs.Effect.{Database}
use Rattle.sqlite.specs.State.{State, HasCleanDisk}
use Rattle.sqlite.specs.Held.{Held, held_code}
use Rattle.attributes.specs.Character.{is_filled}
use Rattle.attributes.specs.Sequence.{max_sequence}
use Rattle.outbox.specs.Order.{Accepted, orders_of}
use Rattle.outbox.specs.Service.{IsService}

-- what a `Service` shows: its connection, source and base, and the number of its outbox's last row,
-- which is the base where there is none
pub record Shown (S : Type 0) : Type 0 where
  pub conn : Held S
  pub source : List ℕ
  pub base : ℕ
  pub last : ℕ

-- a service has the source, the base and the last outbox row that it had
abbrev pub IsSameService : {S : Type 0} → Shown S → Shown S → Type 0
IsSameService old new = (new.source ≡ old.source) × (new.base ≡ old.base) × (new.last ≡ old.last)

abbrev pub service_code : {S : Type 0} → Coded S → Coded (Shown S)
service_code {S} store = code_by (Held S × (List ℕ × (ℕ × ℕ)))
    (coded× (held_code store) (coded× (coded_list coded_ℕ) (coded× coded_ℕ coded_ℕ)))
    (λ s. (s.conn, (s.source, (s.base, s.last))))
    (λ p. record { conn = p.0; source = p.1.0; base = p.1.1.0; last = p.1.1.1 }) (λ _. refl)

-- the most bytes that the source of an outbox's service may have
abbrev pub max_source : ℕ
max_source = 1024

-- a text may be the source of an outbox's service: at least one character, none of them a control
-- character, and at most 1,024 bytes
abbrev pub IsSource : List ℕ → Type 0
IsSource source = (is_filled source ≡ true) × (length source ≤ max_source)

-- the outbox's source is a text of at least one character, with no control character and at most
-- 1,024 bytes, and its base is in 0..=2^63-1
pub record IsAllowed (source : List ℕ) (base : ℕ) : Type 0 where
  pub text : IsUtf8 source
  pub filled : is_filled source ≡ true
  pub short : length source ≤ max_source
  pub high : base ≤ max_sequence

-- the database is not that of a service with an outbox, whatever source and base are allowed, and
-- whatever commands it accepted
abbrev pub IsNoService : Database → Type 0
IsNoService db = (source : List ℕ) (base : ℕ) (commands : List Accepted)
    → IsAllowed source base → IsService db source base commands → ⊥

-- a service whose database this is has this source and base, whatever commands it accepted
abbrev pub HasNoOther : Database → List ℕ → ℕ → Type 0
HasNoOther db source base = (s : List ℕ) (b : ℕ) (commands : List Accepted)
    → IsService db s b commands → (source ≡ s) × (base ≡ b)

-- the database is that of a service with so many outbox rows
pub record StandsWithRows (db : Database) (source : List ℕ) (base last : ℕ) : Type 0 where
  pub commands : List Accepted
  pub table : IsService db source base commands
  pub count : last ≡ base + length commands

-- a service with this source and base that the database is has so many orders
abbrev pub CountsOrders : Database → List ℕ → ℕ → ℕ → Type 0
CountsOrders db source base n = (commands : List Accepted)
    → IsService db source base commands → n ≡ length (orders_of commands)

-- a service that the database is has so many outbox rows, one for each command
abbrev pub CountsRows : Database → List ℕ → ℕ → ℕ → Type 0
CountsRows db source base n = (commands : List Accepted)
    → IsService db source base commands → n ≡ length commands

-- the outbox's source is allowed and its numbers are in range; and while the disk is honest and the
-- database open, it is that of the service
pub record StandsForService (s : State) (source : List ℕ) (base last : ℕ) : Type 0 where
  pub filled : is_filled source ≡ true
  pub short : length source ≤ max_source
  pub low : base ≤ last
  pub high : last ≤ max_sequence
  pub stands : HasCleanDisk s → IsTrue s.is_open → StandsWithRows s.now source base last

-- each order has an outbox row; and while disk is honest and database open, so many are its orders
pub record KeepsCount (s : State) (source : List ℕ) (base last orders : ℕ) : Type 0 where
  pub few : base + orders ≤ last
  pub exact : HasCleanDisk s → IsTrue s.is_open → CountsOrders s.now source base orders
