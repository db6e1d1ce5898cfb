-- What the texts mean under each schema that a service may have.
use Rattle.std.proofs.Common.{◌≡◌, ℕ, suc, pos, negsuc, false, None, List, [], ◌∷◌, codes, refl}
use Rattle.sqlite_value.specs.declared.value.Value.TheVariants.{Null, Int}
use Rattle.sqlite_value.specs.declared.keys.Collation.TheVariants.{Binary}
use Rattle.sqlite_sql.specs.declared.ops.BinaryOp.TheVariants.{Compare}
use Rattle.sqlite_sql.specs.declared.ops.CompareOp.TheVariants.{Eq, Gt}
use Rattle.sqlite_sql.specs.Term.{Term, lit, col, op2}
use Rattle.sqlite_sql.specs.Query.{Query, inner, end}
use Rattle.sqlite_schema.specs.declared.command.Source.TheVariants.{Values}
use Rattle.sqlite_schema.specs.declared.command.Conflict.TheVariants.{Replace}
use Rattle.sqlite_schema.specs.declared.command.Command.{Command}
use Rattle.sqlite_schema.specs.declared.command.Command.TheVariants.{Insert, InsertOr, Select}
use Rattle.sqlite_tied.specs.Compute.{everything}
use Rattle.sqlite.specs.Listing.{understood, reads_listing}
use Rattle.sqlite.proofs.Callers.{IsPlain, command_of}
use Rattle.outbox.specs.Layout.{ServiceLayout, first_tree, schema_in_layout}
use Rattle.database_layout.specs.declared.layout.Layout.TheVariants.{Service, InboxService, ServiceInbox, Inbox2Service, ServiceInbox2, UpgradedService, ServiceUpgraded, ShiftedUpgraded}
pub use Rattle.outbox.specs.steps.Statement.{found_text, note_text, append_text, status_text, page_text, all_rows_text, all_orders_text, service_row_text}

-- the text is this command, plain and without the list of the schema
abbrev pub Means : ServiceLayout → List ℕ → Command → Type 0
Means l text command = (command_of (understood (schema_in_layout l) text) ≡ command) × IsPlain (understood (schema_in_layout l) text) × (reads_listing (schema_in_layout l) text ≡ false)

-- the place of `service` among the tables
abbrev pub first_table : ServiceLayout → ℕ
first_table (InboxService, h) = 1
first_table (Inbox2Service, h) = 1
first_table (UpgradedService, h) = 1
first_table (_, h) = 0

abbrev pub found_terms : List Term
found_terms = col 0 0 ∷ lit Null ∷ col 0 1 ∷ col 0 2 ∷ []

abbrev pub note_terms : List Term
note_terms = col 0 0 ∷ lit Null ∷ col 0 1 ∷ []

abbrev pub append_terms : List Term
append_terms = col 0 0 ∷ lit Null ∷ col 0 1 ∷ col 0 2 ∷ col 0 3 ∷ []

abbrev pub query : ℕ → List Term → List Term → Query
query tree filter project = record {
  from = inner tree end;
  filter = filter;
  group = None;
  project = project;
  distinct = false;
  collations = [];
  order = [];
  limit = lit (Int (negsuc 0));
  offset = lit (Int (pos 0));
}

abbrev pub by_rowid : Query → Query
by_rowid q = record q { order = (col 1 0, record { collation = Binary; descending = false }) ∷ [] }

abbrev pub status_query : ℕ → Query
status_query tree = query tree (op2 (Compare Eq Binary) (col 1 0) (col 0 0) ∷ []) (col 1 2 ∷ [])

abbrev pub row_terms : List Term
row_terms = col 1 0 ∷ col 1 2 ∷ col 1 3 ∷ col 1 4 ∷ []

abbrev pub row_names : List (List ℕ)
row_names = codes "number" ∷ codes "kind" ∷ codes "order_number" ∷ codes "at" ∷ []

abbrev pub page_query : ℕ → Query
page_query tree = record (by_rowid (query tree (op2 (Compare Gt Binary) (col 1 0) (col 0 0) ∷ []) row_terms)) { limit = col 0 1 }

abbrev pub all_rows_query : ℕ → Query
all_rows_query tree = by_rowid (query tree [] row_terms)

abbrev pub all_orders_query : ℕ → Query
all_orders_query tree = by_rowid (query tree [] (col 1 0 ∷ col 1 2 ∷ []))

abbrev pub service_query : ℕ → Query
service_query tree = by_rowid (query tree [] (col 1 0 ∷ col 1 2 ∷ col 1 3 ∷ []))

pub found_is : (l : ServiceLayout) → Means l found_text (Insert (first_table l) (Values found_terms 4))
unfolding understood everything
found_is (Service, h) = (refl, (refl, refl), refl)
found_is (InboxService, h) = (refl, (refl, refl), refl)
found_is (ServiceInbox, h) = (refl, (refl, refl), refl)
found_is (Inbox2Service, h) = (refl, (refl, refl), refl)
found_is (ServiceInbox2, h) = (refl, (refl, refl), refl)
found_is (UpgradedService, h) = (refl, (refl, refl), refl)
found_is (ServiceUpgraded, h) = (refl, (refl, refl), refl)
found_is (ShiftedUpgraded, h) = (refl, (refl, refl), refl)
found_is (_, h) = absurd h

pub note_is : (l : ServiceLayout) → Means l note_text (InsertOr (suc (first_table l)) Replace (Values note_terms 3) [])
unfolding understood everything
note_is (Service, h) = (refl, (refl, refl), refl)
note_is (InboxService, h) = (refl, (refl, refl), refl)
note_is (ServiceInbox, h) = (refl, (refl, refl), refl)
note_is (Inbox2Service, h) = (refl, (refl, refl), refl)
note_is (ServiceInbox2, h) = (refl, (refl, refl), refl)
note_is (UpgradedService, h) = (refl, (refl, refl), refl)
note_is (ServiceUpgraded, h) = (refl, (refl, refl), refl)
note_is (ShiftedUpgraded, h) = (refl, (refl, refl), refl)
note_is (_, h) = absurd h

pub append_is : (l : ServiceLayout) → Means l append_text (Insert (suc (suc (first_table l))) (Values append_terms 5))
unfolding understood everything
append_is (Service, h) = (refl, (refl, refl), refl)
append_is (InboxService, h) = (refl, (refl, refl), refl)
append_is (ServiceInbox, h) = (refl, (refl, refl), refl)
append_is (Inbox2Service, h) = (refl, (refl, refl), refl)
append_is (ServiceInbox2, h) = (refl, (refl, refl), refl)
append_is (UpgradedService, h) = (refl, (refl, refl), refl)
append_is (ServiceUpgraded, h) = (refl, (refl, refl), refl)
append_is (ShiftedUpgraded, h) = (refl, (refl, refl), refl)
append_is (_, h) = absurd h

pub status_is : (l : ServiceLayout) → Means l status_text (Select (record { lets = []; body = status_query (suc (first_tree l)) }) (codes "state" ∷ []))
unfolding understood everything
status_is (Service, h) = (refl, (refl, refl), refl)
status_is (InboxService, h) = (refl, (refl, refl), refl)
status_is (ServiceInbox, h) = (refl, (refl, refl), refl)
status_is (Inbox2Service, h) = (refl, (refl, refl), refl)
status_is (ServiceInbox2, h) = (refl, (refl, refl), refl)
status_is (UpgradedService, h) = (refl, (refl, refl), refl)
status_is (ServiceUpgraded, h) = (refl, (refl, refl), refl)
status_is (ShiftedUpgraded, h) = (refl, (refl, refl), refl)
status_is (_, h) = absurd h

pub page_is : (l : ServiceLayout) → Means l page_text (Select (record { lets = []; body = page_query (suc (suc (first_tree l))) }) row_names)
unfolding understood everything
page_is (Service, h) = (refl, (refl, refl), refl)
page_is (InboxService, h) = (refl, (refl, refl), refl)
page_is (ServiceInbox, h) = (refl, (refl, refl), refl)
page_is (Inbox2Service, h) = (refl, (refl, refl), refl)
page_is (ServiceInbox2, h) = (refl, (refl, refl), refl)
page_is (UpgradedService, h) = (refl, (refl, refl), refl)
page_is (ServiceUpgraded, h) = (refl, (refl, refl), refl)
page_is (ShiftedUpgraded, h) = (refl, (refl, refl), refl)
page_is (_, h) = absurd h

pub all_rows_is : (l : ServiceLayout) → Means l all_rows_text (Select (record { lets = []; body = all_rows_query (suc (suc (first_tree l))) }) row_names)
unfolding understood everything
all_rows_is (Service, h) = (refl, (refl, refl), refl)
all_rows_is (InboxService, h) = (refl, (refl, refl), refl)
all_rows_is (ServiceInbox, h) = (refl, (refl, refl), refl)
all_rows_is (Inbox2Service, h) = (refl, (refl, refl), refl)
all_rows_is (ServiceInbox2, h) = (refl, (refl, refl), refl)
all_rows_is (UpgradedService, h) = (refl, (refl, refl), refl)
all_rows_is (ServiceUpgraded, h) = (refl, (refl, refl), refl)
all_rows_is (ShiftedUpgraded, h) = (refl, (refl, refl), refl)
all_rows_is (_, h) = absurd h

pub all_orders_is : (l : ServiceLayout) → Means l all_orders_text (Select (record { lets = []; body = all_orders_query (suc (first_tree l)) }) (codes "number" ∷ codes "state" ∷ []))
unfolding understood everything
all_orders_is (Service, h) = (refl, (refl, refl), refl)
all_orders_is (InboxService, h) = (refl, (refl, refl), refl)
all_orders_is (ServiceInbox, h) = (refl, (refl, refl), refl)
all_orders_is (Inbox2Service, h) = (refl, (refl, refl), refl)
all_orders_is (ServiceInbox2, h) = (refl, (refl, refl), refl)
all_orders_is (UpgradedService, h) = (refl, (refl, refl), refl)
all_orders_is (ServiceUpgraded, h) = (refl, (refl, refl), refl)
all_orders_is (ShiftedUpgraded, h) = (refl, (refl, refl), refl)
all_orders_is (_, h) = absurd h

pub service_row_is : (l : ServiceLayout) → Means l service_row_text (Select (record { lets = []; body = service_query (first_tree l) }) (codes "one" ∷ codes "source" ∷ codes "base" ∷ []))
unfolding understood everything
service_row_is (Service, h) = (refl, (refl, refl), refl)
service_row_is (InboxService, h) = (refl, (refl, refl), refl)
service_row_is (ServiceInbox, h) = (refl, (refl, refl), refl)
service_row_is (Inbox2Service, h) = (refl, (refl, refl), refl)
service_row_is (ServiceInbox2, h) = (refl, (refl, refl), refl)
service_row_is (UpgradedService, h) = (refl, (refl, refl), refl)
service_row_is (ServiceUpgraded, h) = (refl, (refl, refl), refl)
service_row_is (ShiftedUpgraded, h) = (refl, (refl, refl), refl)
service_row_is (_, h) = absurd h
