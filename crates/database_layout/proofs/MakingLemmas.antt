-- What CREATE TABLE and DROP TABLE make of a database with our tables.
use Rattle.std.proofs.Common.{◌≡◌, ◌⊎◌, inl, inr, ℕ, Bool, true, MatchBool, if◌then◌else◌, suc, List, [], ◌∷◌, ◌++◌, false, None, Ok, Err, Result, refl, sym, ap, subst, ◌∙◌}
use Rattle.std.specs.List.{AllByRecursion}
use Rattle.sqlite_schema.specs.declared.command.Command.TheVariants.{CreateTable, DropTable}
use Rattle.sqlite_schema.specs.declared.schema.Schema.{Schema}
use Rattle.sqlite_schema.specs.declared.schema.Table.{Table}
use Rattle.sqlite_resolve.specs.Compile.{table_defined_by}
use Rattle.sqlite_tied.specs.Compute.{everything}
use Rattle.sqlite_trees.specs.Tree.{Trees}
use Rattle.sqlite_catalog.specs.Change.{created, next_tree, without_table, KeepsRows}
use Rattle.sqlite.specs.declared.error.Error.{Error}
use Rattle.sqlite.specs.Effect.{Database, IsDatabase}
use Rattle.sqlite.specs.Listing.{understood}
use Rattle.sqlite.specs.Does.{Tally, Does, Drops, UncountsIn, is_acted_on, lacks_sequence}
use Rattle.sqlite.specs.Rows.{Task, sequence}
use Rattle.sqlite.specs.declared.run.Mode.{Mode}
use Rattle.sqlite.specs.State.{State, Writes, ExecutesInside, IsUnchanged, IsRolledBack, KeepsCommit, mode_of}
use Rattle.sqlite.proofs.Callers.{IsPlain, command_of, statement_of, runs_as}
use Rattle.database_layout.specs.Layout.{GainsInbox2, GainsService, HasInbox, inbox_tree, schema_in, service_tree}
use Rattle.database_layout.specs.Making.{Changes, Makes, both_in, service_trees, upgraded}
use Rattle.database_layout.specs.Tables.{inbox, inbox2, orders, outbox, service}
use Rattle.database_layout.specs.Texts.{create_inbox2, create_orders, create_outbox, create_service, drop_inbox}
use Rattle.database_layout.specs.declared.layout.Layout.{Layout}
use Rattle.database_layout.specs.declared.layout.Layout.TheVariants.{Empty, Service, Inbox, InboxService, ServiceInbox, Inbox2, Upgraded}

-- a part that gave a value did not stop on the way
went : {B E R : Type 0} {b : B} {Stops : E → Type 0} → ((stop : E) × Stops stop × (Ok b ≡ Err stop)) ⊎ R → R
went (inl stopped) = absurd (let e = stopped.2 in cc)
went (inr on) = on

same_value : {B E : Type 0} {a b : B} → ◌≡◌ {A = Result B E} (Ok a) (Ok b) → a ≡ b
same_value e = cc

-- ---- lists of trees

first_of : {X : Type 0} (P : X → Type 0) (xs ys : List X) → AllByRecursion P (xs ++ ys) → AllByRecursion P xs
first_of P [] ys h = tt
first_of P (x ∷ xs) ys h = (h.0, first_of P xs ys h.1)

last_of : {X : Type 0} (P : X → Type 0) (xs : List X) (y : X) → AllByRecursion P (xs ++ y ∷ []) → P y
last_of P [] y h = h.0
last_of P (x ∷ xs) y h = last_of P xs y h.1

kept_then : (tables : List Table) (a b c : Trees) → KeepsRows tables a b → KeepsRows tables b c → KeepsRows tables a c
kept_then [] a b c one two = tt
kept_then (t ∷ tables) a b c one two = (two.0 ∙ one.0, kept_then tables a b c one.1 two.1)

-- ---- one CREATE TABLE

-- the text makes this table of a database with this schema
abbrev Defines : Schema → List ℕ → Table → Type 0
Defines start text table =
    (command_of (understood start text) ≡ CreateTable) × (statement_of text (understood start text) ≡ text) × (table_defined_by text ≡ Ok table) × IsPlain (understood start text) × (lacks_sequence (created start table) ≡ false)

-- the schema has this table more, whose tree is empty
makes : (start : Schema) (text : List ℕ) (table : Table) (old new : State) (count : ℕ) → Defines start text table → old.now.schema ≡ start → ExecutesInside 0 text [] old new (Ok count) → Makes start (created start table) (next_tree start ∷ []) old new
makes start text table old new count d has h =
    let w = subst (λ t. Writes old new None CreateTable t [] count) d.1 (runs_as text [] old new start has CreateTable d.0 d.3 count h.0) in
    let all = went w.changed in
    let first = went all.1 in
    let it = first.1 in
    let both : Ok it.table ≡ Ok table = sym it.defined ∙ d.2 in
    let same : it.table ≡ table = cc in
    let schema : first.0.schema ≡ created start table = it.is ∙ ap (λ s. created s it.table) has ∙ ap (created start) same in
    let plain : lacks_sequence first.0.schema ≡ false = ap lacks_sequence schema ∙ d.4 in
    let now : new.now ≡ first.0 = ap (λ (p : Tally × Database). p.1) (same_value all.2) ∙ same_value (rw plain at first.2) in
    record {
      changed = record {
        schema = ap (λ (d : Database). d.schema) now ∙ schema;
        rows = subst (λ (t : Trees). KeepsRows start.tables old.now.trees t) (sym (ap (λ (d : Database). d.trees) now)) (subst (λ (s : Schema). KeepsRows s.tables old.now.trees first.0.trees) has it.others);
        sound = w.sound;
        was_open = λ still. h.1.was_open;
        committed = h.1.committed_is;
        mode = h.1.mode;
      };
      empty = (ap (λ (d : Database). d.trees (next_tree start)) now ∙ subst (λ s. first.0.trees (next_tree s) ≡ []) has it.empty, tt);
    }

-- ---- a service

service_defined : (l after : Layout) → GainsService l after → Defines (schema_in l) create_service (service 0)
unfolding understood everything
service_defined Empty after h = (refl, refl, refl, (refl, refl), refl)
service_defined Inbox after h = (refl, refl, refl, (refl, refl), refl)
service_defined Inbox2 after h = (refl, refl, refl, (refl, refl), refl)
service_defined Upgraded after h = (refl, refl, refl, (refl, refl), refl)
service_defined _ after h = absurd h

orders_defined : (l after : Layout) → GainsService l after → Defines (created (schema_in l) (service 0)) create_orders (orders 0)
unfolding understood everything
orders_defined Empty after h = (refl, refl, refl, (refl, refl), refl)
orders_defined Inbox after h = (refl, refl, refl, (refl, refl), refl)
orders_defined Inbox2 after h = (refl, refl, refl, (refl, refl), refl)
orders_defined Upgraded after h = (refl, refl, refl, (refl, refl), refl)
orders_defined _ after h = absurd h

outbox_defined : (l after : Layout) → GainsService l after → Defines (created (created (schema_in l) (service 0)) (orders 0)) create_outbox (outbox 0)
unfolding understood everything
outbox_defined Empty after h = (refl, refl, refl, (refl, refl), refl)
outbox_defined Inbox after h = (refl, refl, refl, (refl, refl), refl)
outbox_defined Inbox2 after h = (refl, refl, refl, (refl, refl), refl)
outbox_defined Upgraded after h = (refl, refl, refl, (refl, refl), refl)
outbox_defined _ after h = absurd h

abbrev with_one : Layout → Schema
with_one l = created (schema_in l) (service 0)

abbrev with_two : Layout → Schema
with_two l = created (with_one l) (orders 0)

-- the schema and the trees of the three
grown : (l after : Layout) → GainsService l after
    → (created (with_two l) (outbox 0) ≡ schema_in after) × (next_tree (schema_in l) ≡ service_tree after) × (next_tree (with_one l) ≡ suc (service_tree after)) × (next_tree (with_two l) ≡ suc (suc (service_tree after)))
grown Empty after h = rw h (refl, refl, refl, refl)
grown Inbox after h = rw h (refl, refl, refl, refl)
grown Inbox2 after h = rw h (refl, refl, refl, refl)
grown Upgraded after h = rw h (refl, refl, refl, refl)
grown _ after h = absurd h

pub service_made : (a b c d : State) (i j k : ℕ) → ExecutesInside 0 create_service [] a b (Ok i) → ExecutesInside 0 create_orders [] b c (Ok j) → ExecutesInside 0 create_outbox [] c d (Ok k)
    → (l after : Layout) → GainsService l after → a.now.schema ≡ schema_in l → Makes (schema_in l) (schema_in after) (service_trees after) a d
service_made a b c d i j k x y z l after gains has =
    let start = schema_in l in
    let one = makes start create_service (service 0) a b i (service_defined l after gains) has x in
    let two = makes (with_one l) create_orders (orders 0) b c j (orders_defined l after gains) one.changed.schema y in
    let three = makes (with_two l) create_outbox (outbox 0) c d k (outbox_defined l after gains) two.changed.schema z in
    let is = grown l after gains in
    let in_one = record (service 0) { tree = next_tree start } in
    let in_two = record (orders 0) { tree = next_tree (with_one l) } in
    let kept_in_three = first_of (λ t. d.now.trees t.tree ≡ c.now.trees t.tree) (start.tables ++ in_one ∷ []) (in_two ∷ []) three.changed.rows in
    let first : d.now.trees (next_tree start) ≡ [] =
    last_of (λ t. d.now.trees t.tree ≡ c.now.trees t.tree) start.tables in_one kept_in_three ∙ last_of (λ t. c.now.trees t.tree ≡ b.now.trees t.tree) start.tables in_one two.changed.rows ∙ one.empty.0 in
    let second : d.now.trees (next_tree (with_one l)) ≡ [] = last_of (λ t. d.now.trees t.tree ≡ c.now.trees t.tree) (start.tables ++ in_one ∷ []) in_two three.changed.rows ∙ two.empty.0 in
    record {
      changed = record {
        schema = three.changed.schema ∙ is.0;
        rows = kept_then start.tables a.now.trees c.now.trees d.now.trees
            (kept_then start.tables a.now.trees b.now.trees c.now.trees one.changed.rows (first_of (λ t. c.now.trees t.tree ≡ b.now.trees t.tree) start.tables (in_one ∷ []) two.changed.rows))
            (first_of (λ t. d.now.trees t.tree ≡ c.now.trees t.tree) start.tables (in_one ∷ []) kept_in_three);
        sound = three.changed.sound;
        was_open = λ still. x.1.was_open;
        committed = three.changed.committed ∙ two.changed.committed ∙ one.changed.committed;
        mode = three.changed.mode;
      };
      empty = (subst (λ t. d.now.trees t ≡ []) is.1 first, (subst (λ t. d.now.trees t ≡ []) is.2 second, (subst (λ t. d.now.trees t ≡ []) is.3 three.empty.0, tt)));
    }

-- ---- an inbox

inbox_defined : (l after : Layout) → GainsInbox2 l after → Defines (schema_in l) create_inbox2 (inbox2 0)
unfolding understood everything
inbox_defined Empty after h = (refl, refl, refl, (refl, refl), refl)
inbox_defined Service after h = (refl, refl, refl, (refl, refl), refl)
inbox_defined _ after h = absurd h

inbox_grown : (l after : Layout) → GainsInbox2 l after → (created (schema_in l) (inbox2 0) ≡ schema_in after) × (next_tree (schema_in l) ≡ inbox_tree after)
unfolding everything
inbox_grown Empty after h = rw h (refl, refl)
inbox_grown Service after h = rw h (refl, refl)
inbox_grown _ after h = absurd h

beside_defined : (l : Layout) → HasInbox l → Defines (schema_in l) create_inbox2 (inbox2 0)
unfolding understood everything
beside_defined Inbox h = (refl, refl, refl, (refl, refl), refl)
beside_defined InboxService h = (refl, refl, refl, (refl, refl), refl)
beside_defined ServiceInbox h = (refl, refl, refl, (refl, refl), refl)
beside_defined _ h = absurd h

beside_grown : (l : Layout) → HasInbox l → (created (schema_in l) (inbox2 0) ≡ both_in l) × (next_tree (schema_in l) ≡ inbox_tree (upgraded l))
unfolding everything
beside_grown Inbox h = (refl, refl)
beside_grown InboxService h = (refl, refl)
beside_grown ServiceInbox h = (refl, refl)
beside_grown _ h = absurd h

pub inbox_made : (old new : State) (count : ℕ) → ExecutesInside 0 create_inbox2 [] old new (Ok count) → (l after : Layout) → GainsInbox2 l after → old.now.schema ≡ schema_in l
    → Makes (schema_in l) (schema_in after) (inbox_tree after ∷ []) old new
inbox_made old new count x l after gains has =
    let is = inbox_grown l after gains in
    subst (λ t. Makes (schema_in l) (schema_in after) (t ∷ []) old new) is.1
    (subst (λ s. Makes (schema_in l) s (next_tree (schema_in l) ∷ []) old new) is.0 (makes (schema_in l) create_inbox2 (inbox2 0) old new count (inbox_defined l after gains) has x))

pub inbox_made_beside : (old new : State) (count : ℕ) → ExecutesInside 0 create_inbox2 [] old new (Ok count) → (l : Layout) → HasInbox l → old.now.schema ≡ schema_in l
    → Makes (schema_in l) (both_in l) (inbox_tree (upgraded l) ∷ []) old new
inbox_made_beside old new count x l there has =
    let is = beside_grown l there in
    subst (λ t. Makes (schema_in l) (both_in l) (t ∷ []) old new) is.1
    (subst (λ s. Makes (schema_in l) s (next_tree (schema_in l) ∷ []) old new) is.0 (makes (schema_in l) create_inbox2 (inbox2 0) old new count (beside_defined l there) has x))

-- ---- DROP TABLE

-- which of the tables it names
abbrev at_place : Layout → ℕ
at_place ServiceInbox = 3
at_place _ = 0

drop_is : (l : Layout) → HasInbox l → (command_of (understood (both_in l) drop_inbox) ≡ DropTable (at_place l)) × IsPlain (understood (both_in l) drop_inbox)
unfolding understood everything
drop_is Inbox h = (refl, (refl, refl))
drop_is InboxService h = (refl, (refl, refl))
drop_is ServiceInbox h = (refl, (refl, refl))
drop_is _ h = absurd h

-- the database without the table, where no foreign key acts
record Lacks (schema : Schema) (tree : ℕ) (db : Trees) (after : Database) : Type 0 where
  schema_is : after.schema ≡ without_table schema tree
  rows : KeepsRows (without_table schema tree).tables db after.trees

settled : (b : Bool) (A B : Type 0) → b ≡ false → MatchBool b A B → B
settled false A B is h = h
settled true A B is h = absurd (cc)

drops : (task : Task) (mode : Mode) (db : Trees) (tally : Tally) (after : Database) → task.table.is_counted ≡ false → is_acted_on task.schema task.keys task.table ≡ false → Drops task mode db (Ok (tally, after)) → Lacks task.schema task.table.tree db after
drops task mode db tally after plain idle h =
    let emptied = went h in
    let uncounted = went emptied.2 in
    let tested = went uncounted.2 in
    let left = went tested.2 in
    let first : emptied.0 ≡ db = same_value (settled _ _ _ idle emptied.1) in
    let second : uncounted.0 ≡ emptied.0 = same_value (subst (λ b. UncountsIn task emptied.0 (if b then sequence task.schema else None) (Ok uncounted.0)) plain uncounted.1) in
    let same : after ≡ left.0 = ap (λ (p : Tally × Database). p.1) (same_value left.2) in
    let lacks = subst (λ t. (left.0.schema ≡ without_table task.schema task.table.tree) × KeepsRows (without_table task.schema task.table.tree).tables t left.0.trees) (second ∙ first) left.1 in
    record {
      schema_is = ap (λ (d : Database). d.schema) same ∙ lacks.0;
      rows = subst (λ (d : Database). KeepsRows (without_table task.schema task.table.tree).tables db d.trees) (sym same) lacks.1;
    }

pub inbox_dropped : (old new : State) (count : ℕ) → ExecutesInside 0 drop_inbox [] old new (Ok count) → (l : Layout) → HasInbox l → old.now.schema ≡ both_in l
    → Changes (both_in l) (schema_in (upgraded l)) (schema_in (upgraded l)) old new
inbox_dropped old new count x l there has =
    let is = drop_is l there in
    let w = runs_as drop_inbox [] old new (both_in l) has (DropTable (at_place l)) is.0 is.1 count x.0 in
    go l w.tally there (subst (λ s. Does old.step_limit (mode_of old) [] (record old.now { schema = s }) (statement_of drop_inbox (understood (both_in l) drop_inbox)) None (DropTable (at_place l)) (Ok (w.tally, new.now))) has w.changed) w.sound
  where
    done : (l : Layout) (tree : ℕ) → without_table (both_in l) tree ≡ schema_in (upgraded l) → Lacks (both_in l) tree old.now.trees new.now → IsDatabase new.now → Changes (both_in l) (schema_in (upgraded l)) (schema_in (upgraded l)) old new
    done l tree same h sound = record {
      schema = h.schema_is ∙ same;
      rows = subst (λ (s : Schema). KeepsRows s.tables old.now.trees new.now.trees) same h.rows;
      sound = sound;
      was_open = λ still. x.1.was_open;
      committed = x.1.committed_is;
      mode = x.1.mode;
    }

    task : (l : Layout) → ℕ → Task
    task l tree = record { limit = old.step_limit; keys = (mode_of old).keys; schema = both_in l; table = inbox tree; params = [] }

    go : (l : Layout) (tally : Tally) → HasInbox l → Does old.step_limit (mode_of old) [] (record old.now { schema = both_in l }) (statement_of drop_inbox (understood (both_in l) drop_inbox)) None (DropTable (at_place l)) (Ok (tally, new.now)) → IsDatabase new.now
        → Changes (both_in l) (schema_in (upgraded l)) (schema_in (upgraded l)) old new
    go Inbox tally h does sound = done Inbox 0 refl (drops (task Inbox 0) (mode_of old) old.now.trees tally new.now refl refl does) sound
    go InboxService tally h does sound = done InboxService 0 refl (drops (task InboxService 0) (mode_of old) old.now.trees tally new.now refl refl does) sound
    go ServiceInbox tally h does sound = done ServiceInbox 3 refl (drops (task ServiceInbox 3) (mode_of old) old.now.trees tally new.now refl refl does) sound
    go _ tally h does sound = absurd h

-- ---- refusals

-- a statement that went well, or was refused, leaves the last commit
pub kept_ok : (text : List ℕ) (a b : State) (i : ℕ) → ExecutesInside 0 text [] a b (Ok i) → KeepsCommit a b
kept_ok text a b i x = record { was_open = λ still. x.1.was_open; committed = λ still. x.1.committed_is }

pub kept_err : (text : List ℕ) (a b : State) (e : Error) → ExecutesInside 0 text [] a b (Err e) → KeepsCommit a b
kept_err text a b e (inl x) = go x.1
  where
    go : IsUnchanged a b ⊎ IsRolledBack a b → KeepsCommit a b
    go (inl h) = record { was_open = λ still. h.0.was_open; committed = λ still. h.0.committed_is }
    go (inr h) = record { was_open = h.was_open; committed = λ still. (h.undone still).1 }
kept_err text a b e (inr x) = record { was_open = λ still. x.2.0.was_open; committed = λ still. x.2.0.committed_is }

pub kept_on : (a b c : State) → KeepsCommit a b → KeepsCommit b c → KeepsCommit a c
kept_on a b c one two = record { was_open = λ still. one.was_open (two.was_open still); committed = λ still. two.committed still ∙ one.committed (two.was_open still) }
