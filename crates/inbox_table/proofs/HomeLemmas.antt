-- What the schemas say of the table, where it is alone, beside a service, or beside one of version 1.
use Rattle.std.proofs.Common.{◌≡◌, ◌||◌, cond, is_some, ◌+◌, inl, inr, ℕ, List, [], ◌∷◌, Bool, true, false, Some, None, slice_get, flat_map, codes, refl, sym, ap, ◌∙◌}
use Rattle.std.specs.List.{AllByRecursion, position_from}
use Rattle.sqlite_value.specs.Order.{Row}
use Rattle.sqlite_trees.specs.Tree.{Trees}
use Rattle.sqlite_schema.specs.declared.schema.Constraint.{Constraint}
use Rattle.sqlite_schema.specs.declared.schema.Keys.{Keys}
use Rattle.sqlite_schema.specs.declared.schema.Schema.{Schema}
use Rattle.sqlite_schema.specs.declared.schema.Table.{Table}
use Rattle.sqlite_schema.specs.Names.{same_name}
use Rattle.sqlite_schema.specs.Rules.{passes, Keeps}
use Rattle.sqlite_rules.specs.Lists.{Has}
use Rattle.database_layout.specs.Beside.{HasAnyInbox}
use Rattle.sqlite_rules.specs.Action.{works}
use Rattle.sqlite_rules.specs.Keys.{conflicts}
use Rattle.sqlite_sql.specs.Program.{overlay}
use Rattle.sqlite_sql.specs.Query.{matches_as, end}
use Rattle.sqlite_value.specs.declared.value.Value.{Value}
use Rattle.sqlite_tied.specs.Compute.{everything}
use Rattle.database_layout.specs.Layout.{HasInboxForm, HasService, has_inbox, has_table, inbox_tree, schema_in}
use Rattle.database_layout.specs.Tables.{inbox2, inbox2_index}
use Rattle.database_layout.specs.declared.layout.Layout.{Layout}
use Rattle.database_layout.specs.declared.layout.Layout.TheVariants.{Empty, Service, Inbox, InboxService, ServiceInbox, Inbox2, Inbox2Service, ServiceInbox2, Upgraded, UpgradedService, ServiceUpgraded, ShiftedUpgraded}
use Rattle.inbox_table.specs.Beside.{HasSameService}
use Rattle.inbox_table.specs.Calls.{has_both}
use Rattle.inbox_table.specs.Version.{HasTable, table_of}
use Rattle.inbox_table.specs.declared.version.Version.{Version}
use Rattle.inbox_table.specs.declared.version.Version.TheVariants.{One, Two}
use Rattle.inbox_table.specs.steps.Turns.{Home, At, Beside, IsHome, KeepsOthers, schema_at, tree_at}
use Rattle.sqlite.specs.Effect.{Database}
use Rattle.inbox_table.proofs.TextLemmas.{index_of, load_query}

-- ---- what INSERT meets

-- no foreign key points to the table
pub works_none : (h : Home) → IsHome h → (keys : Keys) (olds news : List Row) → works (schema_at h) keys 0 (tree_at h) olds news ≡ []
works_none (At Inbox2) has keys olds news = refl
works_none (At Inbox2Service) has keys olds news = refl
works_none (At ServiceInbox2) has keys olds news = refl
works_none (At Upgraded) has keys olds news = refl
works_none (At UpgradedService) has keys olds news = refl
works_none (At ServiceUpgraded) has keys olds news = refl
works_none (At ShiftedUpgraded) has keys olds news = refl
works_none (Beside Inbox) has keys olds news = refl
works_none (Beside InboxService) has keys olds news = refl
works_none (Beside ServiceInbox) has keys olds news = refl
works_none (At _) has keys olds news = absurd has
works_none (Beside _) has keys olds news = absurd has

pub listed : (h : Home) → IsHome h → slice_get (schema_at h).tables (index_of h) ≡ Some (inbox2 (tree_at h))
listed (At Inbox2) has = refl
listed (At Inbox2Service) has = refl
listed (At ServiceInbox2) has = refl
listed (At Upgraded) has = refl
listed (At UpgradedService) has = refl
listed (At ServiceUpgraded) has = refl
listed (At ShiftedUpgraded) has = refl
listed (Beside Inbox) has = refl
listed (Beside InboxService) has = refl
listed (Beside ServiceInbox) has = refl
listed (At _) has = absurd has
listed (Beside _) has = absurd has

-- of the indexes its own alone tells of a conflict
pub one_index : (h : Home) → IsHome h → (new r : Row) → conflicts None (schema_at h).indexes (inbox2 (tree_at h)) new r ≡ conflicts None (inbox2_index (tree_at h) ∷ []) (inbox2 (tree_at h)) new r
one_index (At Inbox2) has new r = refl
one_index (At Inbox2Service) has new r = refl
one_index (At ServiceInbox2) has new r = refl
one_index (At Upgraded) has new r = refl
one_index (At UpgradedService) has new r = refl
one_index (At ServiceUpgraded) has new r = refl
one_index (At ShiftedUpgraded) has new r = refl
one_index (Beside Inbox) has new r = refl
one_index (Beside InboxService) has new r = refl
one_index (Beside ServiceInbox) has new r = refl
one_index (At _) has new r = absurd has
one_index (Beside _) has new r = absurd has

-- ---- what lies beside the table

pub others_same : (tables : List Table) (tree : ℕ) (a : Trees) → KeepsOthers tables tree a a
others_same [] tree a = tt
others_same (t ∷ tables) tree a = ((λ _. refl), others_same tables tree a)

pub others_then : (tables : List Table) (tree : ℕ) (a b c : Trees) → KeepsOthers tables tree a b → KeepsOthers tables tree b c → KeepsOthers tables tree a c
others_then [] tree a b c one two = tt
others_then (t ∷ tables) tree a b c one two = ((λ away. two.0 away ∙ one.0 away), others_then tables tree a b c one.1 two.1)

-- a service in a layout that has an inbox too
pub service_kept : (l : Layout) → HasTable Two l → HasService l → (old new : Database) → KeepsOthers (schema_in l).tables (inbox_tree l) old.trees new.trees → HasSameService l l old new
service_kept Inbox2Service has beside old new k = record { service = k.1.0 (λ e. let no = e in cc); orders = k.1.1.0 (λ e. let no = e in cc); outbox = k.1.1.1.0 (λ e. let no = e in cc) }
service_kept ServiceInbox2 has beside old new k = record { service = k.0 (λ e. let no = e in cc); orders = k.1.0 (λ e. let no = e in cc); outbox = k.1.1.0 (λ e. let no = e in cc) }
service_kept UpgradedService has beside old new k = record { service = k.1.0 (λ e. let no = e in cc); orders = k.1.1.0 (λ e. let no = e in cc); outbox = k.1.1.1.0 (λ e. let no = e in cc) }
service_kept ServiceUpgraded has beside old new k = record { service = k.0 (λ e. let no = e in cc); orders = k.1.0 (λ e. let no = e in cc); outbox = k.1.1.0 (λ e. let no = e in cc) }
service_kept ShiftedUpgraded has beside old new k = record { service = k.0 (λ e. let no = e in cc); orders = k.1.0 (λ e. let no = e in cc); outbox = k.1.1.0 (λ e. let no = e in cc) }
service_kept Inbox2 has beside old new k = absurd beside
service_kept Upgraded has beside old new k = absurd beside
service_kept _ has beside old new k = absurd has

-- ---- what SELECT meets

abbrev pub one : Value → Trees → Row → List (List Row)
one lost db r = matches_as lost db [] end ([] ∷ r ∷ [])

-- the query goes over the rows of our table
pub gone_over : (v : Version) (l : Layout) → HasTable v l → (lost : Value) (db : Trees) → matches_as lost (overlay db []) (load_query v (inbox_tree l)).filter (load_query v (inbox_tree l)).from ([] ∷ []) ≡ flat_map (one lost (overlay db [])) (db (inbox_tree l))
gone_over One Inbox has lost db = refl
gone_over One InboxService has lost db = refl
gone_over One ServiceInbox has lost db = refl
gone_over Two Inbox2 has lost db = refl
gone_over Two Inbox2Service has lost db = refl
gone_over Two ServiceInbox2 has lost db = refl
gone_over Two Upgraded has lost db = refl
gone_over Two UpgradedService has lost db = refl
gone_over Two ServiceUpgraded has lost db = refl
gone_over Two ShiftedUpgraded has lost db = refl
gone_over One _ has lost db = absurd has
gone_over Two _ has lost db = absurd has

-- the rule of the database for our table
pub rule_of : (v : Version) (l : Layout) → HasTable v l → (rule : Constraint) (db : Trees) → Keeps rule (schema_in l) db → AllByRecursion (λ r. passes rule (schema_in l) db (table_of v (inbox_tree l)) r ≡ true) (db (inbox_tree l))
rule_of One Inbox has rule db h = h.0
rule_of One InboxService has rule db h = h.0
rule_of One ServiceInbox has rule db h = h.1.1.1.0
rule_of Two Inbox2 has rule db h = h.0
rule_of Two Inbox2Service has rule db h = h.0
rule_of Two ServiceInbox2 has rule db h = h.1.1.1.0
rule_of Two Upgraded has rule db h = h.0
rule_of Two UpgradedService has rule db h = h.0
rule_of Two ServiceUpgraded has rule db h = h.1.1.1.0
rule_of Two ShiftedUpgraded has rule db h = h.1.1.1.0
rule_of One _ has rule db h = absurd has
rule_of Two _ has rule db h = absurd has

-- and for the table that events are put into
pub rule_at : (h : Home) → IsHome h → (rule : Constraint) (db : Trees) → Keeps rule (schema_at h) db → AllByRecursion (λ r. passes rule (schema_at h) db (inbox2 (tree_at h)) r ≡ true) (db (tree_at h))
rule_at (At l) has rule db keeps = at_layout l has keeps
  where
    at_layout : (l : Layout) → IsHome (At l) → Keeps rule (schema_in l) db → AllByRecursion (λ r. passes rule (schema_in l) db (inbox2 (inbox_tree l)) r ≡ true) (db (inbox_tree l))
    at_layout Inbox2 has h = h.0
    at_layout Inbox2Service has h = h.0
    at_layout ServiceInbox2 has h = h.1.1.1.0
    at_layout Upgraded has h = h.0
    at_layout UpgradedService has h = h.0
    at_layout ServiceUpgraded has h = h.1.1.1.0
    at_layout ShiftedUpgraded has h = h.1.1.1.0
    at_layout _ has h = absurd has
rule_at (Beside Inbox) has rule db keeps = keeps.1.0
rule_at (Beside InboxService) has rule db keeps = keeps.1.1.1.1.0
rule_at (Beside ServiceInbox) has rule db keeps = keeps.1.1.1.1.0
rule_at (Beside _) has rule db keeps = absurd has

-- ---- what a schema tells of the table

-- only one of version 2 has this name
pub is_new : (l : Layout) → HasTable Two l → has_table (schema_in l) (codes "inbox2") ≡ true
unfolding everything
is_new Inbox2 has = refl
is_new Inbox2Service has = refl
is_new ServiceInbox2 has = refl
is_new Upgraded has = refl
is_new UpgradedService has = refl
is_new ServiceUpgraded has = refl
is_new ShiftedUpgraded has = refl
is_new _ has = absurd has

is_old : (l : Layout) → HasTable One l → has_table (schema_in l) (codes "inbox2") ≡ false
unfolding everything
is_old Inbox has = refl
is_old InboxService has = refl
is_old ServiceInbox has = refl
is_old _ has = absurd has

pub not_both_versions : (l m : Layout) → HasTable One l → HasTable Two m → schema_in l ≡ schema_in m → ⊥
not_both_versions l m one two e = absurd (let no : ◌≡◌ {A = Bool} false true = sym (is_old l one) ∙ ap (λ s. has_table s (codes "inbox2")) e ∙ is_new m two in cc)

-- no layout has both
pub one_alone : (l : Layout) → has_both (schema_in l) ≡ false
unfolding everything
one_alone Empty = refl
one_alone Service = refl
one_alone Inbox = refl
one_alone InboxService = refl
one_alone ServiceInbox = refl
one_alone Inbox2 = refl
one_alone Inbox2Service = refl
one_alone ServiceInbox2 = refl
one_alone Upgraded = refl
one_alone UpgradedService = refl
one_alone ServiceUpgraded = refl
one_alone ShiftedUpgraded = refl

-- its form is there
pub formed : (v : Version) (l : Layout) → HasTable v l → HasInboxForm (schema_in l).tables
formed One Inbox has = (_, inl refl, inl refl)
formed One InboxService has = (_, inl refl, inl refl)
formed One ServiceInbox has = (_, inr (inr (inr (inl refl))), inl refl)
formed Two Inbox2 has = (_, inl refl, inr refl)
formed Two Inbox2Service has = (_, inl refl, inr refl)
formed Two ServiceInbox2 has = (_, inr (inr (inr (inl refl))), inr refl)
formed Two Upgraded has = (_, inl refl, inr refl)
formed Two UpgradedService has = (_, inl refl, inr refl)
formed Two ServiceUpgraded has = (_, inr (inr (inr (inl refl))), inr refl)
formed Two ShiftedUpgraded has = (_, inr (inr (inr (inl refl))), inr refl)
formed One _ has = absurd has
formed Two _ has = absurd has

-- and its name
pub has_name : (l : Layout) → HasAnyInbox l → has_inbox (schema_in l) ≡ true
unfolding everything
has_name Empty (inl h) = absurd h
has_name Empty (inr h) = absurd h
has_name Service (inl h) = absurd h
has_name Service (inr h) = absurd h
has_name Inbox h = refl
has_name InboxService h = refl
has_name ServiceInbox h = refl
has_name Inbox2 h = refl
has_name Inbox2Service h = refl
has_name ServiceInbox2 h = refl
has_name Upgraded h = refl
has_name UpgradedService h = refl
has_name ServiceUpgraded h = refl
has_name ShiftedUpgraded h = refl

is_named : (same_name (codes "inbox") (codes "inbox") ≡ true) × (same_name (codes "inbox2") (codes "inbox2") ≡ true)
unfolding everything
is_named = (refl, refl)

found_at : {X : Type 0} (f : X → Bool) (at : ℕ) (xs : List X) (x : X) → Has xs x → f x ≡ true → is_some (position_from f at xs) ≡ true
found_at f at [] x h holds = absurd h
found_at f at (y ∷ xs) x (inl is) holds = let here : f y ≡ true = ap f (sym is) ∙ holds in rw here refl
found_at f at (y ∷ xs) x (inr h) holds = go (f y) (found_at f (at + 1) xs x h holds)
  where
    go : (b : Bool) → is_some (position_from f (at + 1) xs) ≡ true → is_some (cond b (Some at) (position_from f (at + 1) xs)) ≡ true
    go true rest = refl
    go false rest = rest

or_true : (b : Bool) → (b || true) ≡ true
or_true true = refl
or_true false = refl

pub form_named : (s : Schema) → HasInboxForm s.tables → has_inbox s ≡ true
form_named s (t, h, inl form) =
    let name : t.name ≡ codes "inbox" = ap (λ (y : Table). y.name) form in
    rw (found_at (λ (y : Table). same_name y.name (codes "inbox")) 0 s.tables t h (rw name is_named.0)) refl
form_named s (t, h, inr form) =
    let name : t.name ≡ codes "inbox2" = ap (λ (y : Table). y.name) form in
    rw (found_at (λ (y : Table). same_name y.name (codes "inbox2")) 0 s.tables t h (rw name is_named.1)) (or_true _)
