-- What is told of a database.
use Rattle.std.specs.Prelude.{◌≡◌, ◌⊎◌, ℕ, List, [], ◌++◌, false, length}
use Rattle.sqlite.specs.Effect.{Database}
use Rattle.attributes.specs.Event.{EventValue}
use Rattle.inbox.specs.Sets.{set_of}
use Rattle.coverage.specs.Digests.{Digests}
use Rattle.coverage.specs.Summary.{Sources, sources_of}
use Rattle.database_layout.specs.Layout.{has_inbox, has_name}
use Rattle.inbox_table.specs.Rows.{IsListed}
use Rattle.inbox_table.specs.declared.version.Version.{Version}
use Rattle.inbox_table.specs.declared.version.Version.TheVariants.{One, Two}
use Rattle.databases.specs.Held.{Holds}
use Rattle.databases.specs.Print.{database_line, service_line}
use Rattle.databases.specs.Service.{IsServiceTold}

-- a database's events have so many sources: those of the summary that digests their set
abbrev pub CountsSources : List EventValue → ℕ → Type 0
CountsSources events n = (s : Sources) × Digests (set_of events) s × (n ≡ length (sources_of s))

-- the number of a version of a database's inbox
abbrev pub version_number : Version → ℕ
version_number One = 1
version_number Two = 2

-- the inbox of the database has these events in the version with this number; 0 where there is none
abbrev pub HasVersionNumber : Database → List EventValue → ℕ → Type 0
HasVersionNumber db events n = ((n ≡ 0) × (has_inbox db.schema ≡ false))
    ⊎ ((v : Version) × (n ≡ version_number v) × IsListed v db events)

-- the text tells of the inbox of this database, which has this name
pub record TellsInbox (name : List ℕ) (db : Database) (text : List ℕ) : Type 0 where
  pub events : List EventValue
  pub holds : Holds db events
  -- which are all that it holds
  pub only : (held : List EventValue) → Holds db held → events ≡ held
  pub version : ℕ
  pub is_version : HasVersionNumber db events version
  pub sources : ℕ
  pub counts : CountsSources events sources
  pub line : text ≡ database_line name (length events) sources version

-- the text tells of the service of this database, and is empty where there is none
abbrev pub TellsOfService : Database → List ℕ → Type 0
TellsOfService db text = ((has_name db.schema ≡ false) × (text ≡ [])) ⊎ IsServiceTold db text

-- the text tells of this database, which has this name: of its inbox, then of its service
pub record Describes (name : List ℕ) (db : Database) (text : List ℕ) : Type 0 where
  pub first : List ℕ
  pub rest : List ℕ
  pub inbox : TellsInbox name db first
  pub service : TellsOfService db rest
  pub both : text ≡ first ++ rest

-- the text tells of some service of a database, or is empty
abbrev pub SaysSomeService : List ℕ → Type 0
SaysSomeService text = (text ≡ []) ⊎ ((source : List ℕ) × (base : ℕ) × (orders : ℕ) × (rows : ℕ)
    × (text ≡ service_line source base orders rows))

-- so many events of a database may be told with a version of this number: it is that of a version,
-- or 0, where there is no inbox, and then there are none
abbrev pub IsToldVersion : ℕ → ℕ → Type 0
IsToldVersion events n = ((n ≡ 0) × (events ≡ 0)) ⊎ ((v : Version) × (n ≡ version_number v))

-- the text tells of some inbox of a database with this name, or that there is none
abbrev pub SaysInbox : List ℕ → List ℕ → Type 0
SaysInbox name text = (events : ℕ) × (sources : ℕ) × (version : ℕ) × IsToldVersion events version
    × (text ≡ database_line name events sources version)

-- the text tells of some database with this name
pub record SaysDatabase (name text : List ℕ) : Type 0 where
  pub first : List ℕ
  pub rest : List ℕ
  pub inbox : SaysInbox name first
  pub service : SaysSomeService rest
  pub both : text ≡ first ++ rest
