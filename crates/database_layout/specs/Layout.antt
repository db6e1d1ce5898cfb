-- Which tables of ours a database has, and where they lie.
use Rattle.std.specs.Prelude.{◌≡◌, ◌⊎◌, ⊤, ℕ, suc, Bool, not, List, [], ◌∷◌, ◌++◌, codes, is_some, ◌||◌}
use Rattle.sqlite_rules.specs.Lists.{Has}
use Rattle.sqlite_schema.specs.declared.schema.Index.{Index}
use Rattle.sqlite_schema.specs.declared.schema.Schema.{Schema}
use Rattle.sqlite_schema.specs.declared.schema.Table.{Table}
use Rattle.sqlite_schema.specs.Names.{table_named}
use Rattle.database_layout.specs.Tables.{inbox, inbox2, inbox2_index, inbox_index, orders, outbox, service}
use Rattle.database_layout.specs.declared.layout.Layout.{Layout}
use Rattle.database_layout.specs.declared.layout.Layout.TheVariants.{Empty, Service, Inbox, InboxService, ServiceInbox, Inbox2, Inbox2Service, ServiceInbox2, Upgraded, UpgradedService, ServiceUpgraded, ShiftedUpgraded}

-- a file's schema of these tables and indexes
abbrev pub schema_of : List Table → List Index → Schema
schema_of tables indexes = record { tables = tables; indexes = indexes; views = [] }

-- the three tables of a service, in trees that follow one another
abbrev pub service_tables : ℕ → List Table
service_tables tree = service tree ∷ orders (suc tree) ∷ outbox (suc (suc tree)) ∷ []

-- the schema of a database with these tables alone
abbrev pub schema_in : Layout → Schema
schema_in Empty = schema_of [] []
schema_in Service = schema_of (service_tables 0) []
schema_in Inbox = schema_of (inbox 0 ∷ []) (inbox_index 0 ∷ [])
schema_in InboxService = schema_of (inbox 0 ∷ service_tables 2) (inbox_index 0 ∷ [])
schema_in ServiceInbox = schema_of (service_tables 0 ++ inbox 3 ∷ []) (inbox_index 3 ∷ [])
schema_in Inbox2 = schema_of (inbox2 0 ∷ []) (inbox2_index 0 ∷ [])
schema_in Inbox2Service = schema_of (inbox2 0 ∷ service_tables 2) (inbox2_index 0 ∷ [])
schema_in ServiceInbox2 = schema_of (service_tables 0 ++ inbox2 3 ∷ []) (inbox2_index 3 ∷ [])
schema_in Upgraded = schema_of (inbox2 2 ∷ []) (inbox2_index 2 ∷ [])
schema_in UpgradedService = schema_of (inbox2 2 ∷ service_tables 4) (inbox2_index 2 ∷ [])
schema_in ServiceUpgraded = schema_of (service_tables 0 ++ inbox2 5 ∷ []) (inbox2_index 5 ∷ [])
schema_in ShiftedUpgraded = schema_of (service_tables 2 ++ inbox2 5 ∷ []) (inbox2_index 5 ∷ [])

-- a service is among the tables of the layout, and the tree of its first table
abbrev pub HasService : Layout → Type 0
HasService Service = ⊤
HasService InboxService = ⊤
HasService ServiceInbox = ⊤
HasService Inbox2Service = ⊤
HasService ServiceInbox2 = ⊤
HasService UpgradedService = ⊤
HasService ServiceUpgraded = ⊤
HasService ShiftedUpgraded = ⊤
HasService _ = ⊥

abbrev pub service_tree : Layout → ℕ
service_tree InboxService = 2
service_tree Inbox2Service = 2
service_tree UpgradedService = 4
service_tree ShiftedUpgraded = 2
service_tree _ = 0

-- an inbox of version 1 is among the layout's tables, or one of version 2, and its tree
abbrev pub HasInbox : Layout → Type 0
HasInbox Inbox = ⊤
HasInbox InboxService = ⊤
HasInbox ServiceInbox = ⊤
HasInbox _ = ⊥

abbrev pub HasInbox2 : Layout → Type 0
HasInbox2 Inbox2 = ⊤
HasInbox2 Inbox2Service = ⊤
HasInbox2 ServiceInbox2 = ⊤
HasInbox2 Upgraded = ⊤
HasInbox2 UpgradedService = ⊤
HasInbox2 ServiceUpgraded = ⊤
HasInbox2 ShiftedUpgraded = ⊤
HasInbox2 _ = ⊥

abbrev pub inbox_tree : Layout → ℕ
inbox_tree ServiceInbox = 3
inbox_tree ServiceInbox2 = 3
inbox_tree Upgraded = 2
inbox_tree UpgradedService = 2
inbox_tree ServiceUpgraded = 5
inbox_tree ShiftedUpgraded = 5
inbox_tree _ = 0

-- the schema of the file is one that our calls leave, with tables of ours alone
abbrev pub IsOurs : Schema → Type 0
IsOurs schema = (l : Layout) × (schema ≡ schema_in l)

-- the schema has a table of this name; SQL reads names without regard to the case of ASCII letters
abbrev pub has_table : Schema → List ℕ → Bool
has_table schema name = is_some (table_named schema name)

-- a table of the schema has one of the names of a service's
abbrev pub has_name : Schema → Bool
has_name schema = has_table schema (codes "service")
    || (has_table schema (codes "orders") || has_table schema (codes "outbox"))

-- one of the names of a service's tables has no table in the schema
abbrev pub lacks_name : Schema → Bool
lacks_name schema = not (has_table schema (codes "service"))
    || (not (has_table schema (codes "orders")) || not (has_table schema (codes "outbox")))

-- a table of the schema has the name of an inbox, of either version
abbrev pub has_inbox : Schema → Bool
has_inbox schema = has_table schema (codes "inbox") || has_table schema (codes "inbox2")

-- an inbox of our form is among the tables of the schema, of either version
abbrev pub HasInboxForm : List Table → Type 0
HasInboxForm tables = (t : Table) × Has tables t × ((t ≡ inbox t.tree) ⊎ (t ≡ inbox2 t.tree))

-- what a layout becomes once a service is made
abbrev pub GainsService : Layout → Layout → Type 0
GainsService Empty l = l ≡ Service
GainsService Inbox l = l ≡ InboxService
GainsService Inbox2 l = l ≡ Inbox2Service
GainsService Upgraded l = l ≡ UpgradedService
GainsService _ l = ⊥

-- and what a layout becomes once an inbox of version 2 is made where there is none
abbrev pub GainsInbox2 : Layout → Layout → Type 0
GainsInbox2 Empty l = l ≡ Inbox2
GainsInbox2 Service l = l ≡ ServiceInbox2
GainsInbox2 _ l = ⊥
