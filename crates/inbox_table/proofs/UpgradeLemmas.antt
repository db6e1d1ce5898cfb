-- A table of version 2 in the place of one of version 1, and what a crash may find.
use Rattle.std.proofs.Common.{◌≡◌, ◌⊎◌, inl, inr, ℕ, List, [], ◌∷◌, Bool, true, false, filter, refl, sym, ap, subst, ◌∙◌, arith, IsTrue, IsPermutation, length, Ok, Err, Result}
use Rattle.std.proofs.lemmas.List.Sorted.{IsPermutation-refl}
use Rattle.std.specs.Result.{IfOk, OnOk}
use Rattle.sqlite_catalog.specs.Change.{KeepsRows}
use Rattle.sqlite.specs.Effect.{Database}
use Rattle.sqlite_schema.specs.declared.schema.Schema.{Schema}
use Rattle.sqlite.specs.State.{State, HasCleanDisk, KeepsCommit, Survives}
use Rattle.sqlite.proofs.StateLemmas.{survives_then}
use Rattle.attributes.specs.Event.{EventValue}
use Rattle.database_layout.specs.Layout.{HasInbox, HasInboxForm, HasService, has_inbox, inbox_tree, schema_in}
use Rattle.database_layout.specs.Making.{Changes, Makes, both_in, upgraded}
use Rattle.database_layout.specs.declared.layout.Layout.{Layout}
use Rattle.database_layout.specs.declared.layout.Layout.TheVariants.{Inbox, InboxService, ServiceInbox}
use Rattle.inbox_table.specs.Beside.{HasSameService, UpgradesTables}
use Rattle.inbox_table.specs.Calls.{Adopts, Finds, IsAsItWas, IsSettled, IsTold, MayUpgrade, Rejects, has_both}
use Rattle.inbox_table.specs.Fault.{IsOfStore}
use Rattle.inbox_table.specs.Rows.{IsAnyInbox, IsInbox, IsListed, IsOldInbox, rows_from}
use Rattle.inbox_table.specs.Version.{HasTable}
use Rattle.inbox_table.specs.declared.fault.TableFault.{TableFault}
use Rattle.inbox_table.specs.declared.fault.TableFault.TheVariants.{Foreign, OutOfMemory, Store}
use Rattle.inbox_table.specs.declared.version.Version.{Version}
use Rattle.inbox_table.specs.declared.version.Version.TheVariants.{One, Two}
use Rattle.inbox_table.specs.steps.Reads.{HasVersion, IsTableReading, TellsRows}
use Rattle.inbox_table.specs.steps.Turns.{Beside, IsFilled, IsKeeping, IsTaking, KeepsOthers}
use Rattle.inbox_table.specs.steps.Upgrades.{Copies, HasAdopted, Refills}
use Rattle.inbox_table.proofs.HomeLemmas.{form_named, formed, has_name, not_both_versions, one_alone}
use Rattle.inbox_table.proofs.ReadLemmas.{survives_none}

-- the new table stays where it was made
new_kept : (l : Layout) → HasInbox l → (old new : Database) → KeepsRows (schema_in (upgraded l)).tables old.trees new.trees → HasTable Two (upgraded l) × (new.trees (inbox_tree (upgraded l)) ≡ old.trees (inbox_tree (upgraded l)))
new_kept Inbox has old new k = (tt, k.0)
new_kept InboxService has old new k = (tt, k.1.1.1.0)
new_kept ServiceInbox has old new k = (tt, k.1.1.1.0)
new_kept _ has old new k = absurd has

-- and a service through all three steps
moved : (l : Layout) → HasInbox l → HasService l → (a b c d : Database) → KeepsRows (schema_in l).tables a.trees b.trees → KeepsOthers (both_in l).tables (inbox_tree (upgraded l)) b.trees c.trees
    → KeepsRows (schema_in (upgraded l)).tables c.trees d.trees → HasSameService l (upgraded l) a d
moved Inbox has none a b c d one two three = absurd none
moved InboxService has beside a b c d one two three = record {
  service = three.0 ∙ two.1.0 (λ e. let no = e in cc) ∙ one.1.0;
  orders = three.1.0 ∙ two.1.1.0 (λ e. let no = e in cc) ∙ one.1.1.0;
  outbox = three.1.1.0 ∙ two.1.1.1.0 (λ e. let no = e in cc) ∙ one.1.1.1.0;
}
moved ServiceInbox has beside a b c d one two three = record {
  service = three.0 ∙ two.0 (λ e. let no = e in cc) ∙ one.0;
  orders = three.1.0 ∙ two.1.0 (λ e. let no = e in cc) ∙ one.1.0;
  outbox = three.1.1.0 ∙ two.1.1.0 (λ e. let no = e in cc) ∙ one.1.1.0;
}
moved _ has beside a b c d one two three = absurd has

pub refilled : (l : Layout) (events : List EventValue) (a b c d : State) (fresh : ℕ) → HasInbox l → a.now.schema ≡ schema_in l → Makes (schema_in l) (both_in l) (inbox_tree (upgraded l) ∷ []) a b → IsKeeping 0 events [] b c fresh
    → (c.now.schema ≡ both_in l → Changes (both_in l) (schema_in (upgraded l)) (schema_in (upgraded l)) c d) → Refills events a d
refilled l events a b c d fresh has was made keeping drops =
    let empty : IsFilled (Beside l) b.now [] = record { home = has; schema = made.changed.schema; rows = subst (IsPermutation []) (sym made.empty.0) (IsPermutation-refl []); numbered = tt; once = refl } in
    let it : IsTaking (Beside l) 0 events [] [] b.now c.now fresh = keeping.table (Beside l) [] empty refl in
    let change = drops it.table.schema in
    let kept = new_kept l has c.now d.now change.rows in
    record {
      table = λ numbered once.
          let are : it.held ≡ events = it.rest ∙ once in
          record {
            layout = upgraded l;
            has = kept.0;
            schema = change.schema;
            rows = subst (IsPermutation (rows_from Two 1 events)) (sym kept.1) (subst (λ es. IsPermutation (rows_from Two 1 es) (c.now.trees (inbox_tree (upgraded l)))) are it.table.rows);
            numbered = numbered;
            once = once;
          };
      beside = record { before = l; has = has; was = was; is = change.schema; service = λ beside. moved l has beside a.now b.now c.now d.now made.changed.rows it.others change.rows };
      sound = change.sound;
      was_open = λ still. made.changed.was_open (keeping.was_open (change.was_open still));
      committed = change.committed ∙ keeping.committed ∙ made.changed.committed;
      mode = change.mode;
    }

pub copied : (events : List EventValue) (a b last : State) → Refills events a b → IsOldInbox a.now events → last.now ≡ b.now → last.committed ≡ b.now → IsTrue last.is_open → Copies events a.now last
copied events a b last it was now committed still = record {
  table = subst (λ (d : Database). IsInbox d events) (sym now) (it.table was.numbered was.once);
  beside = subst (λ (d : Database). UpgradesTables a.now d) (sym now) it.beside;
  stays_open = still;
  committed = committed ∙ sym now;
}

pub ends : (events : List EventValue) (a b end : State) → (HasCleanDisk b → Refills events a b) → Survives a b (λ _. ⊥) → Survives b end (λ db. db ≡ b.now.trees)
    → Survives a end (λ trees. IsOldInbox a.now events → MayUpgrade a.now trees)
ends events a b end refills one two =
    survives_then a b end (λ _. ⊥) _ (λ trees. IsOldInbox a.now events → MayUpgrade a.now trees) (λ _ db none. absurd none)
    (λ clean db is was. let it = refills (omega (arith, two.clean)) in record { db = b.now; are = is; sound = it.sound; events = events; was = was; is = it.table was.numbered was.once; beside = it.beside }) one two

-- ---- what was taken over

pub all_wanted : {X : Type 0} (xs : List X) → filter (λ _. true) xs ≡ xs
all_wanted [] = refl
all_wanted (x ∷ xs) = ap (λ ys. x ∷ ys) (all_wanted xs)

-- a database has no list of either version beside that of the other
pub no_new : (db : Database) (m : List EventValue) (l : Layout) → HasInbox l → db.schema ≡ schema_in l → IsInbox db m → ⊥
no_new db m l has is box = not_both_versions l box.layout has box.has (sym is ∙ box.schema)

pub no_old : (db : Database) (m : List EventValue) (l : Layout) → HasTable Two l → db.schema ≡ schema_in l → IsOldInbox db m → ⊥
no_old db m l has is box = not_both_versions box.layout l box.has has (sym box.schema ∙ is)

-- all events of a table of version 1 are those that were read
pub read_all : (db : Database) (rows : ℕ) (batch : List EventValue) → TellsRows One (λ _. true) db rows batch → IsOldInbox db batch × ((m : List EventValue) → IsOldInbox db m → batch ≡ m)
read_all db rows batch it =
    let are : batch ≡ it.events = it.kept ∙ all_wanted it.events in
    (subst (IsOldInbox db) (sym are) it.table, λ m box. are ∙ it.only m box)

pub adopts_old : (l : Layout) (old last : State) (batch : List EventValue) (rows : ℕ) → HasInbox l → old.now.schema ≡ schema_in l → TellsRows One (λ _. true) old.now rows batch → IsInbox last.now batch → UpgradesTables old.now last.now → IsTrue last.is_open → IsSettled last
    → Adopts old last batch
adopts_old l old last batch rows has schema tells new tables still settled =
    let all = read_all old.now rows batch tells in
    record { found = inr all.0; only = only; is = new; same = λ box. absurd (no_new old.now batch l has schema box); upgraded = λ _. tables; stays_open = still; settled = settled }
  where
    only : (m : List EventValue) → IsAnyInbox old.now m → batch ≡ m
    only m (inl box) = absurd (no_new old.now m l has schema box)
    only m (inr box) = (read_all old.now rows batch tells).1 m box

-- and so it is of a table of either version
pub finds_all : (v : Version) (db : Database) (rows : ℕ) (batch : List EventValue) → HasVersion v db.schema → TellsRows v (λ _. true) db rows batch → Finds db v batch
finds_all v db rows batch (l, has, schema) tells =
    let are : batch ≡ tells.events = tells.kept ∙ all_wanted tells.events in
    record { table = subst (IsListed v db) (sym are) tells.table; only = λ m box. are ∙ go v has tells.only m box }
  where
    go : (v : Version) → HasTable v l → {es : List EventValue} → ((m : List EventValue) → IsListed v db m → es ≡ m) → (m : List EventValue) → IsAnyInbox db m → es ≡ m
    go One has only m (inl box) = absurd (no_new db m l has schema box)
    go One has only m (inr box) = only m box
    go Two has only m (inl box) = only m box
    go Two has only m (inr box) = absurd (no_old db m l has schema box)

-- one of version 2 is taken as it is
pub adopts_new : (l : Layout) (old last : State) (keeps : Bool) (rows : ℕ) (batch : List EventValue) → HasTable Two l → old.now.schema ≡ schema_in l → TellsRows Two (λ _. keeps) old.now rows batch → last.now ≡ old.now → IsTrue last.is_open → IsSettled last
    → HasAdopted keeps old last rows batch
adopts_new l old last keeps rows batch has schema tells now still settled = record {
  events = tells.events;
  adopts = record { found = inl tells.table; only = only; is = subst (λ (d : Database). IsInbox d tells.events) (sym now) tells.table; same = λ _. now; upgraded = λ box. absurd (no_old old.now tells.events l has schema box); stays_open = still; settled = settled };
  count = tells.count;
  kept = λ yes. tells.kept ∙ ap (λ b. filter (λ _. b) tells.events) yes ∙ all_wanted tells.events;
}
  where
    only : (m : List EventValue) → IsAnyInbox old.now m → tells.events ≡ m
    only m (inl box) = tells.only m box
    only m (inr box) = absurd (no_old old.now m l has schema box)

pub made_commit : {before after : Schema} {made : List ℕ} {old new : State} → Makes before after made old new → KeepsCommit old new
made_commit made = record { was_open = made.changed.was_open; committed = λ _. made.changed.committed }

-- ---- what was refused

pub any_named : (db : Database) (m : List EventValue) → IsAnyInbox db m → has_inbox db.schema ≡ true
any_named db m (inl box) = ap has_inbox box.schema ∙ has_name box.layout (inr box.has)
any_named db m (inr box) = ap has_inbox box.schema ∙ has_name box.layout (inl box.has)

any_formed : (db : Database) (m : List EventValue) → IsAnyInbox db m → HasInboxForm db.schema.tables
any_formed db m (inl box) = subst (λ (s : Schema). HasInboxForm s.tables) (sym box.schema) (formed Two box.layout box.has)
any_formed db m (inr box) = subst (λ (s : Schema). HasInboxForm s.tables) (sym box.schema) (formed One box.layout box.has)

any_alone : (db : Database) (m : List EventValue) → IsAnyInbox db m → has_both db.schema ≡ false
any_alone db m (inl box) = ap has_both box.schema ∙ one_alone box.layout
any_alone db m (inr box) = ap has_both box.schema ∙ one_alone box.layout

pub not_told : (b : Bool) → b ≡ true → b ≡ false → ⊥
not_told true h none = absurd (cc)
not_told false h none = absurd (cc)

-- no table has the name
pub rejects_unnamed : (s : State) → has_inbox s.now.schema ≡ false → Rejects s s Foreign
rejects_unnamed s none = record {
  foreign = λ clean is m box. not_told (has_inbox s.now.schema) (any_named s.now m box) none;
  unwritten = λ _. survives_none s;
  strange = λ other form one. absurd (not_told (has_inbox s.now.schema) (form_named s.now.schema form) none);
  same = λ _ _. refl;
}

-- there are other tables than ours
pub rejects_stranger : (s : State) (fault : TableFault) → (fault ≡ Foreign → (has_both s.now.schema ≡ true) ⊎ (¬ HasInboxForm s.now.schema.tables)) → Rejects s s fault
rejects_stranger s fault why = record {
  foreign = λ clean is m box. elim (why is) [ inl both ↦ not_told (has_both s.now.schema) both (any_alone s.now m box) | inr none ↦ none (any_formed s.now m box) ];
  unwritten = λ _. survives_none s;
  strange = λ other form one is. elim (why is) [ inl both ↦ not_told (has_both s.now.schema) both one | inr none ↦ none form ];
  same = λ _ _. refl;
}

-- the rows aren't those of a list
pub rejects_rows : (v : Version) (l : Layout) (old mid : State) (fault : TableFault) → HasTable v l → old.now.schema ≡ schema_in l → IsTableReading old mid → Survives old mid (λ _. ⊥)
    → (HasCleanDisk mid → fault ≡ Foreign → (m : List EventValue) → IsListed v old.now m → ⊥) → Rejects old mid fault
rejects_rows v l old mid fault has schema same survives none = record {
  foreign = λ clean is m box. go v has (none clean is) m box;
  unwritten = λ _. survives;
  strange = λ other form one. absurd (other (l, schema));
  same = λ clean still. (same.same clean still).0;
}
  where
    go : (v : Version) → HasTable v l → ((m : List EventValue) → IsListed v old.now m → ⊥) → (m : List EventValue) → IsAnyInbox old.now m → ⊥
    go One has none m (inl box) = no_new old.now m l has schema box
    go One has none m (inr box) = none m box
    go Two has none m (inl box) = none m box
    go Two has none m (inr box) = no_old old.now m l has schema box

-- the store refuses
pub rejects_store : (l : Layout) (old new : State) (fault : TableFault) → old.now.schema ≡ schema_in l → IsAsItWas old new → IsOfStore fault → Rejects old new fault
rejects_store l old new fault schema same store = record {
  foreign = λ clean is. absurd (not_foreign fault store is);
  unwritten = λ is. absurd (not_foreign fault store is);
  strange = λ other form one. absurd (other (l, schema));
  same = same;
}
  where
    not_foreign : (f : TableFault) → IsOfStore f → f ≡ Foreign → ⊥
    not_foreign f (inl is) it = absurd (let e : ◌≡◌ {A = TableFault} OutOfMemory Foreign = sym is ∙ it in cc)
    not_foreign f (inr is) it = absurd (let e : ◌≡◌ {A = TableFault} Store Foreign = sym is ∙ it in cc)

-- a reading changed nothing, and then the store refused
pub as_it_was : (old mid new : State) → IsTableReading old mid → (HasCleanDisk new → HasCleanDisk mid × (IsTrue new.is_open → IsTrue mid.is_open)) → IsAsItWas mid new → IsAsItWas old new
as_it_was old mid new same still last clean open_now = let it = still clean in last clean open_now ∙ (same.same it.0 (it.1 open_now)).0

-- a layout has one version at most
pub both_none : (s : Schema) (l : Layout) → s ≡ schema_in l → has_both s ≡ true → ⊥
both_none s l is both = not_told (has_both s) both (ap has_both is ∙ one_alone l)

-- ---- what the watch was told

pub on_ok : {T E : Type 0} (r : Result T E) (P : Type 0) → P → OnOk r P
on_ok (Ok x) P p = p
on_ok (Err y) P p = tt

-- those that were put in are those that were there
pub upgrade_told : {T : Type 0} (rows : T → ℕ) (events : T → List EventValue) (told : ℕ → ℕ → Type 0) (old new : State) (r : Result T TableFault) → IfOk r (λ f. HasAdopted true old new (rows f) (events f)) → IfOk r (λ f. IsTold told (length (events f)))
    → OnOk r ((m : List EventValue) → IsOldInbox old.now m → IsTold told (length m))
upgrade_told rows events told old new (Ok f) it were = λ m box. subst (λ (l : List EventValue). IsTold told (length l)) (it.kept refl ∙ it.adopts.only m (inr box)) were
upgrade_told rows events told old new (Err fault) it were = tt
