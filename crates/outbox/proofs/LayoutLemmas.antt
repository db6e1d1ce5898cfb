-- What the schemas that a service may have say of its three tables.
use Rattle.std.proofs.Common.{◌≡◌, Option, ◌≢◌, inl, inr, ℕ, suc, ◌-◌, List, [], Bool, true, false, Some, None, slice_get, unwrap_or, option_map, codes, sym, ◌∙◌, if◌then◌else◌, nat_le, ◌^◌, refl, ap}
use Rattle.std.specs.List.{AllByRecursion}
use Rattle.sqlite_value.specs.Order.{Row}
use Rattle.sqlite_trees.specs.Tree.{Trees}
use Rattle.sqlite_schema.specs.declared.schema.Constraint.{Constraint}
use Rattle.sqlite_schema.specs.declared.schema.Keys.{Keys}
use Rattle.sqlite_schema.specs.declared.schema.Table.{Table}
use Rattle.sqlite_schema.specs.declared.schema.Schema.{Schema}
use Rattle.sqlite_schema.specs.Rules.{passes, Obeys}
use Rattle.sqlite_sql.specs.Program.{overlay}
use Rattle.sqlite_rules.specs.Action.{works}
use Rattle.sqlite_rules.specs.Edit.{IsNoIndex}
use Rattle.sqlite_rules.specs.Keys.{conflicts}
use Rattle.database_layout.specs.Tables.{service, orders, outbox}
use Rattle.database_layout.specs.Beside.{HasAnyInbox}
use Rattle.database_layout.specs.Layout.{inbox_tree}
use Rattle.outbox.specs.Layout.{ServiceLayout, first_tree, schema_in_layout}
use Rattle.database_layout.specs.declared.layout.Layout.TheVariants.{Service, InboxService, ServiceInbox, Inbox2Service, ServiceInbox2, UpgradedService, ServiceUpgraded, ShiftedUpgraded}
use Rattle.sqlite_schema.specs.Names.{table_named}
use Rattle.sqlite_tied.specs.Compute.{everything}
use Rattle.outbox.proofs.TextLemmas.{first_table}

pub service_listed : (l : ServiceLayout) → slice_get (schema_in_layout l).tables (first_table l) ≡ Some (service (first_tree l))
service_listed (Service, h) = refl
service_listed (InboxService, h) = refl
service_listed (ServiceInbox, h) = refl
service_listed (Inbox2Service, h) = refl
service_listed (ServiceInbox2, h) = refl
service_listed (UpgradedService, h) = refl
service_listed (ServiceUpgraded, h) = refl
service_listed (ShiftedUpgraded, h) = refl
service_listed (_, h) = absurd h

pub orders_listed : (l : ServiceLayout) → slice_get (schema_in_layout l).tables (suc (first_table l)) ≡ Some (orders (suc (first_tree l)))
orders_listed (Service, h) = refl
orders_listed (InboxService, h) = refl
orders_listed (ServiceInbox, h) = refl
orders_listed (Inbox2Service, h) = refl
orders_listed (ServiceInbox2, h) = refl
orders_listed (UpgradedService, h) = refl
orders_listed (ServiceUpgraded, h) = refl
orders_listed (ShiftedUpgraded, h) = refl
orders_listed (_, h) = absurd h

pub outbox_listed : (l : ServiceLayout) → slice_get (schema_in_layout l).tables (suc (suc (first_table l))) ≡ Some (outbox (suc (suc (first_tree l))))
outbox_listed (Service, h) = refl
outbox_listed (InboxService, h) = refl
outbox_listed (ServiceInbox, h) = refl
outbox_listed (Inbox2Service, h) = refl
outbox_listed (ServiceInbox2, h) = refl
outbox_listed (UpgradedService, h) = refl
outbox_listed (ServiceUpgraded, h) = refl
outbox_listed (ShiftedUpgraded, h) = refl
outbox_listed (_, h) = absurd h

-- no foreign key acts
pub no_works : (l : ServiceLayout) (keys : Keys) (tree : ℕ) (olds news : List Row) → works (schema_in_layout l) keys 0 tree olds news ≡ []
no_works (Service, h) keys tree olds news = refl
no_works (InboxService, h) keys tree olds news = refl
no_works (ServiceInbox, h) keys tree olds news = refl
no_works (Inbox2Service, h) keys tree olds news = refl
no_works (ServiceInbox2, h) keys tree olds news = refl
no_works (UpgradedService, h) keys tree olds news = refl
no_works (ServiceUpgraded, h) keys tree olds news = refl
no_works (ShiftedUpgraded, h) keys tree olds news = refl
no_works (_, h) keys tree olds news = absurd h

-- no index stands in the three trees
pub no_index_0 : (l : ServiceLayout) → IsNoIndex (schema_in_layout l) (first_tree l)
no_index_0 (Service, h) = tt
no_index_0 (InboxService, h) = ((λ e. let no = e in cc), tt)
no_index_0 (ServiceInbox, h) = ((λ e. let no = e in cc), tt)
no_index_0 (Inbox2Service, h) = ((λ e. let no = e in cc), tt)
no_index_0 (ServiceInbox2, h) = ((λ e. let no = e in cc), tt)
no_index_0 (UpgradedService, h) = ((λ e. let no = e in cc), tt)
no_index_0 (ServiceUpgraded, h) = ((λ e. let no = e in cc), tt)
no_index_0 (ShiftedUpgraded, h) = ((λ e. let no = e in cc), tt)
no_index_0 (_, h) = absurd h

pub no_index_1 : (l : ServiceLayout) → IsNoIndex (schema_in_layout l) (suc (first_tree l))
no_index_1 (Service, h) = tt
no_index_1 (InboxService, h) = ((λ e. let no = e in cc), tt)
no_index_1 (ServiceInbox, h) = ((λ e. let no = e in cc), tt)
no_index_1 (Inbox2Service, h) = ((λ e. let no = e in cc), tt)
no_index_1 (ServiceInbox2, h) = ((λ e. let no = e in cc), tt)
no_index_1 (UpgradedService, h) = ((λ e. let no = e in cc), tt)
no_index_1 (ServiceUpgraded, h) = ((λ e. let no = e in cc), tt)
no_index_1 (ShiftedUpgraded, h) = ((λ e. let no = e in cc), tt)
no_index_1 (_, h) = absurd h

pub no_index_2 : (l : ServiceLayout) → IsNoIndex (schema_in_layout l) (suc (suc (first_tree l)))
no_index_2 (Service, h) = tt
no_index_2 (InboxService, h) = ((λ e. let no = e in cc), tt)
no_index_2 (ServiceInbox, h) = ((λ e. let no = e in cc), tt)
no_index_2 (Inbox2Service, h) = ((λ e. let no = e in cc), tt)
no_index_2 (ServiceInbox2, h) = ((λ e. let no = e in cc), tt)
no_index_2 (UpgradedService, h) = ((λ e. let no = e in cc), tt)
no_index_2 (ServiceUpgraded, h) = ((λ e. let no = e in cc), tt)
no_index_2 (ShiftedUpgraded, h) = ((λ e. let no = e in cc), tt)
no_index_2 (_, h) = absurd h

-- and none in that of an inbox beside them
pub apart : (l : ServiceLayout) → HasAnyInbox l.0 → (inbox_tree l.0 ≢ suc (first_tree l)) × (inbox_tree l.0 ≢ suc (suc (first_tree l))) × IsNoIndex (schema_in_layout l) (inbox_tree l.0)
apart (Service, h) (inl h2) = absurd h2
apart (Service, h) (inr h2) = absurd h2
apart (InboxService, h) has = ((λ e. let no = e in cc), (λ e. let no = e in cc), ((λ e. let no = e in cc), tt))
apart (ServiceInbox, h) has = ((λ e. let no = e in cc), (λ e. let no = e in cc), ((λ e. let no = e in cc), tt))
apart (Inbox2Service, h) has = ((λ e. let no = e in cc), (λ e. let no = e in cc), ((λ e. let no = e in cc), tt))
apart (ServiceInbox2, h) has = ((λ e. let no = e in cc), (λ e. let no = e in cc), ((λ e. let no = e in cc), tt))
apart (UpgradedService, h) has = ((λ e. let no = e in cc), (λ e. let no = e in cc), ((λ e. let no = e in cc), tt))
apart (ServiceUpgraded, h) has = ((λ e. let no = e in cc), (λ e. let no = e in cc), ((λ e. let no = e in cc), tt))
apart (ShiftedUpgraded, h) has = ((λ e. let no = e in cc), (λ e. let no = e in cc), ((λ e. let no = e in cc), tt))
apart (_, h) has = absurd h

pub apart_first : (l : ServiceLayout) → HasAnyInbox l.0 → inbox_tree l.0 ≢ first_tree l
apart_first (Service, h) (inl h2) = absurd h2
apart_first (Service, h) (inr h2) = absurd h2
apart_first (InboxService, h) has = λ e. let no = e in cc
apart_first (ServiceInbox, h) has = λ e. let no = e in cc
apart_first (Inbox2Service, h) has = λ e. let no = e in cc
apart_first (ServiceInbox2, h) has = λ e. let no = e in cc
apart_first (UpgradedService, h) has = λ e. let no = e in cc
apart_first (ServiceUpgraded, h) has = λ e. let no = e in cc
apart_first (ShiftedUpgraded, h) has = λ e. let no = e in cc
apart_first (_, h) has = absurd h

-- only the rowid of `orders` is unique
pub no_unique : (l : ServiceLayout) (new r : Row) → conflicts None (schema_in_layout l).indexes (orders (suc (first_tree l))) new r ≡ conflicts None [] (orders (suc (first_tree l))) new r
no_unique (Service, h) new r = refl
no_unique (InboxService, h) new r = refl
no_unique (ServiceInbox, h) new r = refl
no_unique (Inbox2Service, h) new r = refl
no_unique (ServiceInbox2, h) new r = refl
no_unique (UpgradedService, h) new r = refl
no_unique (ServiceUpgraded, h) new r = refl
no_unique (ShiftedUpgraded, h) new r = refl
no_unique (_, h) new r = absurd h

-- each row of the three tables passes each rule
module _ (db : Trees) (rule : Constraint) where
  pub service_passes : (l : ServiceLayout) → Obeys (schema_in_layout l) db → AllByRecursion (λ r. passes rule (schema_in_layout l) db (service (first_tree l)) r ≡ true) (db (first_tree l))
  service_passes (Service, h) o = (o.rules rule).0
  service_passes (InboxService, h) o = (o.rules rule).1.0
  service_passes (ServiceInbox, h) o = (o.rules rule).0
  service_passes (Inbox2Service, h) o = (o.rules rule).1.0
  service_passes (ServiceInbox2, h) o = (o.rules rule).0
  service_passes (UpgradedService, h) o = (o.rules rule).1.0
  service_passes (ServiceUpgraded, h) o = (o.rules rule).0
  service_passes (ShiftedUpgraded, h) o = (o.rules rule).0
  service_passes (_, h) o = absurd h

  pub orders_passes : (l : ServiceLayout) → Obeys (schema_in_layout l) db → AllByRecursion (λ r. passes rule (schema_in_layout l) db (orders (suc (first_tree l))) r ≡ true) (db (suc (first_tree l)))
  orders_passes (Service, h) o = (o.rules rule).1.0
  orders_passes (InboxService, h) o = (o.rules rule).1.1.0
  orders_passes (ServiceInbox, h) o = (o.rules rule).1.0
  orders_passes (Inbox2Service, h) o = (o.rules rule).1.1.0
  orders_passes (ServiceInbox2, h) o = (o.rules rule).1.0
  orders_passes (UpgradedService, h) o = (o.rules rule).1.1.0
  orders_passes (ServiceUpgraded, h) o = (o.rules rule).1.0
  orders_passes (ShiftedUpgraded, h) o = (o.rules rule).1.0
  orders_passes (_, h) o = absurd h

  pub outbox_passes : (l : ServiceLayout) → Obeys (schema_in_layout l) db → AllByRecursion (λ r. passes rule (schema_in_layout l) db (outbox (suc (suc (first_tree l)))) r ≡ true) (db (suc (suc (first_tree l))))
  outbox_passes (Service, h) o = (o.rules rule).1.1.0
  outbox_passes (InboxService, h) o = (o.rules rule).1.1.1.0
  outbox_passes (ServiceInbox, h) o = (o.rules rule).1.1.0
  outbox_passes (Inbox2Service, h) o = (o.rules rule).1.1.1.0
  outbox_passes (ServiceInbox2, h) o = (o.rules rule).1.1.0
  outbox_passes (UpgradedService, h) o = (o.rules rule).1.1.1.0
  outbox_passes (ServiceUpgraded, h) o = (o.rules rule).1.1.0
  outbox_passes (ShiftedUpgraded, h) o = (o.rules rule).1.1.0
  outbox_passes (_, h) o = absurd h

-- a query with no table of its own reads the trees
pub no_overlay : (db : Trees) (t : ℕ) → overlay db [] t ≡ db t
no_overlay db t = go (nat_le (2 ^ 31) t)
  where
    go : (b : Bool) → unwrap_or (if b then slice_get [] (t - 2 ^ 31) else None) (db t) ≡ db t
    go true = refl
    go false = refl

-- the schema tells the trees
abbrev tree_at : Schema → Option ℕ → ℕ
tree_at s None = 0
tree_at s (Some at) = unwrap_or (option_map (λ (t : Table). t.tree) (slice_get s.tables at)) 0

abbrev tree_in : Schema → ℕ
tree_in s = tree_at s (table_named s (codes "service"))

tells_tree : (l : ServiceLayout) → tree_in (schema_in_layout l) ≡ first_tree l
unfolding everything
tells_tree (Service, h) = refl
tells_tree (InboxService, h) = refl
tells_tree (ServiceInbox, h) = refl
tells_tree (Inbox2Service, h) = refl
tells_tree (ServiceInbox2, h) = refl
tells_tree (UpgradedService, h) = refl
tells_tree (ServiceUpgraded, h) = refl
tells_tree (ShiftedUpgraded, h) = refl
tells_tree (_, h) = absurd h

pub same_tree : (l m : ServiceLayout) → schema_in_layout l ≡ schema_in_layout m → first_tree l ≡ first_tree m
same_tree l m e = sym (tells_tree l) ∙ ap tree_in e ∙ tells_tree m
