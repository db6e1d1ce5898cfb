-- What the texts mean under the schema.
use Rattle.std.proofs.Common.{◌≡◌, ℕ, pos, negsuc, List, [], ◌∷◌, codes, false, None, refl}
use Rattle.sqlite_value.specs.declared.value.Value.TheVariants.{Null, Int}
use Rattle.sqlite_value.specs.declared.keys.Collation.TheVariants.{Binary}
use Rattle.sqlite_sql.specs.declared.ops.BinaryOp.TheVariants.{Compare}
use Rattle.sqlite_sql.specs.declared.ops.CompareOp.TheVariants.{Eq, Gt}
use Rattle.sqlite_sql.specs.Term.{Term, lit, col, op2}
use Rattle.sqlite_sql.specs.Query.{Query, inner, end}
use Rattle.sqlite_schema.specs.declared.command.Upsert.{Upsert}
use Rattle.sqlite_schema.specs.declared.command.Source.TheVariants.{Values}
use Rattle.sqlite_schema.specs.declared.command.Conflict.TheVariants.{Abort}
use Rattle.sqlite_schema.specs.declared.command.Command.TheVariants.{Insert, InsertOr, Select}
use Rattle.sqlite_tied.specs.Compute.{everything}
use Rattle.sqlite.specs.Listing.{understood, reads_listing}
use Rattle.sqlite.proofs.Callers.{IsPlain, command_of}
use Rattle.database_layout.specs.Layout.{inbox_tree, schema_in}
use Rattle.database_layout.specs.declared.layout.Layout.{Layout}
use Rattle.database_layout.specs.declared.layout.Layout.TheVariants.{Inbox, InboxService, ServiceInbox, Inbox2, Inbox2Service, ServiceInbox2, Upgraded, UpgradedService, ServiceUpgraded, ShiftedUpgraded}
use Rattle.inbox_table.specs.Version.{HasTable}
use Rattle.inbox_table.specs.declared.version.Version.{Version}
use Rattle.inbox_table.specs.declared.version.Version.TheVariants.{One, Two}
use Rattle.inbox_table.specs.steps.Turns.{Home, At, Beside, IsHome, schema_at}
pub use Rattle.inbox_table.specs.Texts.{insert_group_text, insert_new_text, insert_text, named_text, page_text, select_text}

-- the values of a new row
abbrev pub terms : List Term
terms = col 0 0 ∷ lit Null ∷ col 0 1 ∷ col 0 2 ∷ col 0 3 ∷ col 0 4 ∷ col 0 5 ∷ []

-- a row that is there is passed over
abbrev pub clauses : List Upsert
clauses = record { target = None; update = None } ∷ []

-- which of the tables is the one that is written
abbrev pub index_of : Home → ℕ
index_of (At ServiceInbox2) = 3
index_of (At ServiceUpgraded) = 3
index_of (At ShiftedUpgraded) = 3
index_of (Beside Inbox) = 1
index_of (Beside InboxService) = 4
index_of (Beside ServiceInbox) = 4
index_of _ = 0

-- what INSERT means where the table is
abbrev pub Inserts : Home → Type 0
Inserts h = (command_of (understood (schema_at h) insert_text) ≡ InsertOr (index_of h) Abort (Values terms 7) clauses) × IsPlain (understood (schema_at h) insert_text)

pub insert_is : (h : Home) → IsHome h → Inserts h
unfolding understood everything
insert_is (At Inbox2) has = (refl, (refl, refl))
insert_is (At Inbox2Service) has = (refl, (refl, refl))
insert_is (At ServiceInbox2) has = (refl, (refl, refl))
insert_is (At Upgraded) has = (refl, (refl, refl))
insert_is (At UpgradedService) has = (refl, (refl, refl))
insert_is (At ServiceUpgraded) has = (refl, (refl, refl))
insert_is (At ShiftedUpgraded) has = (refl, (refl, refl))
insert_is (Beside Inbox) has = (refl, (refl, refl))
insert_is (Beside InboxService) has = (refl, (refl, refl))
insert_is (Beside ServiceInbox) has = (refl, (refl, refl))
insert_is (At _) has = absurd has
insert_is (Beside _) has = absurd has

-- what INSERT of a new event means where the table is
abbrev pub InsertsNew : Home → Type 0
InsertsNew h = (command_of (understood (schema_at h) insert_new_text) ≡ Insert (index_of h) (Values terms 7)) × IsPlain (understood (schema_at h) insert_new_text)

pub insert_new_is : (h : Home) → IsHome h → InsertsNew h
unfolding understood everything
insert_new_is (At Inbox2) has = (refl, (refl, refl))
insert_new_is (At Inbox2Service) has = (refl, (refl, refl))
insert_new_is (At ServiceInbox2) has = (refl, (refl, refl))
insert_new_is (At Upgraded) has = (refl, (refl, refl))
insert_new_is (At UpgradedService) has = (refl, (refl, refl))
insert_new_is (At ServiceUpgraded) has = (refl, (refl, refl))
insert_new_is (At ShiftedUpgraded) has = (refl, (refl, refl))
insert_new_is (Beside Inbox) has = (refl, (refl, refl))
insert_new_is (Beside InboxService) has = (refl, (refl, refl))
insert_new_is (Beside ServiceInbox) has = (refl, (refl, refl))
insert_new_is (At _) has = absurd has
insert_new_is (Beside _) has = absurd has

-- the values of eight new rows
abbrev pub group_terms : List Term
group_terms = col 0 0 ∷ lit Null ∷ col 0 1 ∷ col 0 2 ∷ col 0 3 ∷ col 0 4 ∷ col 0 5 ∷ col 0 6 ∷ lit Null ∷ col 0 7 ∷ col 0 8 ∷ col 0 9 ∷ col 0 10 ∷ col 0 11 ∷ col 0 12 ∷ lit Null ∷ col 0 13 ∷ col 0 14 ∷ col 0 15 ∷ col 0 16 ∷ col 0 17 ∷ col 0 18 ∷ lit Null ∷ col 0 19 ∷ col 0 20 ∷ col 0 21 ∷ col 0 22 ∷ col 0 23 ∷ col 0 24 ∷ lit Null ∷ col 0 25 ∷ col 0 26 ∷ col 0 27 ∷ col 0 28 ∷ col 0 29 ∷ col 0 30 ∷ lit Null ∷ col 0 31 ∷ col 0 32 ∷ col 0 33 ∷ col 0 34 ∷ col 0 35 ∷ col 0 36 ∷ lit Null ∷ col 0 37 ∷ col 0 38 ∷ col 0 39 ∷ col 0 40 ∷ col 0 41 ∷ col 0 42 ∷ lit Null ∷ col 0 43 ∷ col 0 44 ∷ col 0 45 ∷ col 0 46 ∷ col 0 47 ∷ []

-- what INSERT of eight new events means where the table is
abbrev pub InsertsGroup : Home → Type 0
InsertsGroup h = (command_of (understood (schema_at h) insert_group_text) ≡ Insert (index_of h) (Values group_terms 7)) × IsPlain (understood (schema_at h) insert_group_text)

pub insert_group_is : (h : Home) → IsHome h → InsertsGroup h
unfolding understood everything
insert_group_is (At Inbox2) has = (refl, (refl, refl))
insert_group_is (At Inbox2Service) has = (refl, (refl, refl))
insert_group_is (At ServiceInbox2) has = (refl, (refl, refl))
insert_group_is (At Upgraded) has = (refl, (refl, refl))
insert_group_is (At UpgradedService) has = (refl, (refl, refl))
insert_group_is (At ServiceUpgraded) has = (refl, (refl, refl))
insert_group_is (At ShiftedUpgraded) has = (refl, (refl, refl))
insert_group_is (Beside Inbox) has = (refl, (refl, refl))
insert_group_is (Beside InboxService) has = (refl, (refl, refl))
insert_group_is (Beside ServiceInbox) has = (refl, (refl, refl))
insert_group_is (At _) has = absurd has
insert_group_is (Beside _) has = absurd has

-- the columns that are shown, and their names
abbrev pub projected : Version → List Term
projected One = col 1 0 ∷ col 1 2 ∷ col 1 3 ∷ col 1 4 ∷ col 1 5 ∷ []
projected Two = col 1 0 ∷ col 1 2 ∷ col 1 3 ∷ col 1 4 ∷ col 1 5 ∷ col 1 6 ∷ []

abbrev pub names : Version → List (List ℕ)
names One = codes "place" ∷ codes "source" ∷ codes "id" ∷ codes "number" ∷ codes "body" ∷ []
names Two = codes "place" ∷ codes "source" ∷ codes "id" ∷ codes "number" ∷ codes "body" ∷ codes "block" ∷ []

-- the rows of a tree, by place
abbrev pub load_query : Version → ℕ → Query
load_query v tree = record {
  from = inner tree end;
  filter = [];
  group = None;
  project = projected v;
  distinct = false;
  collations = [];
  order = (col 1 0, record { collation = Binary; descending = false }) ∷ [];
  limit = lit (Int (negsuc 0));
  offset = lit (Int (pos 0));
}

-- what SELECT means where the table is
pub record Selects (v : Version) (l : Layout) : Type 0 where
  pub command : command_of (understood (schema_in l) (select_text v)) ≡ Select (record { lets = []; body = load_query v (inbox_tree l) }) (names v)
  pub listing : reads_listing (schema_in l) (select_text v) ≡ false
  pub plain : IsPlain (understood (schema_in l) (select_text v))

pub select_is : (v : Version) (l : Layout) → HasTable v l → Selects v l
unfolding understood everything
select_is One Inbox has = record { command = refl; listing = refl; plain = (refl, refl) }
select_is One InboxService has = record { command = refl; listing = refl; plain = (refl, refl) }
select_is One ServiceInbox has = record { command = refl; listing = refl; plain = (refl, refl) }
select_is Two Inbox2 has = record { command = refl; listing = refl; plain = (refl, refl) }
select_is Two Inbox2Service has = record { command = refl; listing = refl; plain = (refl, refl) }
select_is Two ServiceInbox2 has = record { command = refl; listing = refl; plain = (refl, refl) }
select_is Two Upgraded has = record { command = refl; listing = refl; plain = (refl, refl) }
select_is Two UpgradedService has = record { command = refl; listing = refl; plain = (refl, refl) }
select_is Two ServiceUpgraded has = record { command = refl; listing = refl; plain = (refl, refl) }
select_is Two ShiftedUpgraded has = record { command = refl; listing = refl; plain = (refl, refl) }
select_is One _ has = absurd has
select_is Two _ has = absurd has

-- the rows of a tree that pass a filter, by place, up to a limit
abbrev pub search_query : List Term → Term → ℕ → Query
search_query filter limit tree = record (load_query Two tree) { filter = filter; limit = limit }

-- what a SELECT with a filter means where the table is
pub record Searches (text : List ℕ) (filter : List Term) (limit : Term) (l : Layout) : Type 0 where
  pub command : command_of (understood (schema_in l) text) ≡ Select (record { lets = []; body = search_query filter limit (inbox_tree l) }) (names Two)
  pub listing : reads_listing (schema_in l) text ≡ false
  pub plain : IsPlain (understood (schema_in l) text)

-- no limit
abbrev pub no_limit : Term
no_limit = lit (Int (negsuc 0))

-- WHERE source = ?1 AND id = ?2
abbrev pub named_filter : List Term
named_filter = op2 (Compare Eq Binary) (col 1 2) (col 0 0) ∷ op2 (Compare Eq Binary) (col 1 3) (col 0 1) ∷ []

pub named_is : (l : Layout) → HasTable Two l → Searches named_text named_filter no_limit l
unfolding understood everything
named_is Inbox2 has = record { command = refl; listing = refl; plain = (refl, refl) }
named_is Inbox2Service has = record { command = refl; listing = refl; plain = (refl, refl) }
named_is ServiceInbox2 has = record { command = refl; listing = refl; plain = (refl, refl) }
named_is Upgraded has = record { command = refl; listing = refl; plain = (refl, refl) }
named_is UpgradedService has = record { command = refl; listing = refl; plain = (refl, refl) }
named_is ServiceUpgraded has = record { command = refl; listing = refl; plain = (refl, refl) }
named_is ShiftedUpgraded has = record { command = refl; listing = refl; plain = (refl, refl) }
named_is _ has = absurd has

-- WHERE place > ?1
abbrev pub page_filter : List Term
page_filter = op2 (Compare Gt Binary) (col 1 0) (col 0 0) ∷ []

-- LIMIT ?2
abbrev pub page_limit : Term
page_limit = col 0 1

pub page_is : (l : Layout) → HasTable Two l → Searches page_text page_filter page_limit l
unfolding understood everything
page_is Inbox2 has = record { command = refl; listing = refl; plain = (refl, refl) }
page_is Inbox2Service has = record { command = refl; listing = refl; plain = (refl, refl) }
page_is ServiceInbox2 has = record { command = refl; listing = refl; plain = (refl, refl) }
page_is Upgraded has = record { command = refl; listing = refl; plain = (refl, refl) }
page_is UpgradedService has = record { command = refl; listing = refl; plain = (refl, refl) }
page_is ServiceUpgraded has = record { command = refl; listing = refl; plain = (refl, refl) }
page_is ShiftedUpgraded has = record { command = refl; listing = refl; plain = (refl, refl) }
page_is _ has = absurd has
