-- What a database holds for a command, before and after.
use Rattle.std.proofs.Common.{◌≡◌, ◌⊎◌, ◌∙◌, ℕ, List, [], length, Bool, true, false, Ok, Err, Result, ap, inl, inr, sym, subst, refl}
use Rattle.std.specs.Result.{IfOk, OnErr, OnOk}
use Rattle.sqlite_trees.specs.Tree.{Trees}
use Rattle.sqlite.specs.Effect.{Database}
use Rattle.sqlite.specs.State.{State, HasCleanDisk}
use Rattle.attributes.specs.Event.{EventValue}
use Rattle.inbox.specs.KeyOrder.{key_cmp}
use Rattle.inbox.specs.Ordered.{append_new}
use Rattle.database_layout.specs.Layout.{has_inbox}
use Rattle.inbox_table.specs.Calls.{Adopts, IsTold, MayMake, MayTake, MayUpgrade}
use Rattle.inbox_table.specs.Opening.{MayOpen, Opens, RejectsOpening}
use Rattle.inbox_table.specs.Rows.{IsAnyInbox, IsInbox, IsOldInbox}
use Rattle.inbox_table.specs.Fault.{IsOfStore}
use Rattle.inbox_table.specs.declared.fault.TableFault.{TableFault}
use Rattle.inbox_table.specs.declared.fault.TableFault.TheVariants as table
use Rattle.inbox_table.proofs.UpgradeLemmas.{any_named}
use Rattle.outbox.specs.declared.fault.OutboxFault.{OutboxFault}
use Rattle.outbox.specs.declared.fault.OutboxFault.TheVariants as outbox
use Rattle.databases.specs.Fault.{of_outbox, of_table}
use Rattle.databases.specs.declared.fault.CommandFault.TheVariants as command
use Rattle.databases.specs.declared.fault.CommandFault.{CommandFault}
use Rattle.databases.specs.Held.{Holds, IsNoInbox, IsUntold, KeepsRows, MayHold, MayHoldMore, TellsUpgrade}
use Rattle.databases.proofs.BesideLemmas.{service_gained, service_kept, service_over, service_same, service_upgraded}

-- where there was no table, the one that was made has what the database held
pub made_holds : (old new : Database) (held : List EventValue) → has_inbox old.schema ≡ false → IsInbox new [] → Holds old held → IsInbox new held
made_holds old new held absent made h = subst (λ l. IsInbox new l) (sym (h.none absent)) made

clash : (b : Bool) → b ≡ true → b ≡ false → ⊥
clash b one other = let e : true ≡ false = sym one ∙ other in cc

-- a database with the table holds its events
pub inbox_holds : (db : Database) (held : List EventValue) → IsInbox db held → Holds db held
inbox_holds db held box = record {
  there = λ _. inl box;
  none = λ no. absurd (clash (has_inbox db.schema) (any_named db held (inl box)) no);
}

-- so does one with a table of either version
pub any_holds : (db : Database) (held : List EventValue) → IsAnyInbox db held → Holds db held
any_holds db held box = record {
  there = λ _. box;
  none = λ no. absurd (clash (has_inbox db.schema) (any_named db held box) no);
}

-- and one without a table holds none
pub absent_holds : (db : Database) → has_inbox db.schema ≡ false → Holds db []
absent_holds db absent = record {
  there = λ yes. absurd (clash (has_inbox db.schema) yes absent);
  none = λ _. refl;
}

-- what is left after a stop in making a table, or in taking one over
pub made_may_hold : (old : Database) (trees : Trees) → has_inbox old.schema ≡ false → MayMake old trees → MayHold old trees
made_may_hold old trees absent may = record {
  db = may.db;
  are = may.are;
  sound = may.sound;
  events = [];
  was = absent_holds old absent;
  is = inbox_holds may.db [] may.made.table;
  beside = service_gained old may.db may.made.beside;
}

pub upgraded_may_hold : (old : Database) (trees : Trees) → MayUpgrade old trees → MayHold old trees
upgraded_may_hold old trees may = record {
  db = may.db;
  are = may.are;
  sound = may.sound;
  events = may.events;
  was = any_holds old may.events (inr may.was);
  is = inbox_holds may.db may.events may.is;
  beside = service_upgraded old may.db may.beside;
}

-- what is left after a stop in opening one
pub opened_may_hold : (old : Database) (trees : Trees) → MayOpen old trees → MayHold old trees
opened_may_hold old trees (inl (absent, made)) = made_may_hold old trees absent made
opened_may_hold old trees (inr (there, upgraded)) = upgraded_may_hold old trees upgraded

-- and after one in keeping events, behind what is there
pub held_may_more : (L : List EventValue) (old : Database) (trees : Trees) → MayHold old trees → MayHoldMore L old trees
held_may_more L old trees may = record {
  db = may.db;
  are = may.are;
  sound = may.sound;
  events = may.events;
  was = may.was;
  is = inl may.is;
  beside = may.beside;
}

pub took_may_more : (L : List EventValue) (old mid : Database) (trees : Trees) (held : List EventValue) → Holds old held → IsInbox mid held → KeepsRows old mid → MayTake L mid trees → MayHoldMore L old trees
took_may_more L old mid trees held was box rows may = record {
  db = may.db;
  are = may.are;
  sound = may.sound;
  events = held;
  was = was;
  is = inr (inbox_holds may.db (append_new key_cmp held L) (may.takes held box));
  beside = service_over old mid may.db rows (service_kept mid may.db may.beside);
}

-- a table that was opened, with these events
module _ (tells : ℕ → ℕ → Type 0) (old new : State) (events : List EventValue) (opens : Opens tells old new events) where
  pub opened_events : (held : List EventValue) → Holds old.now held → events ≡ held
  opened_events held h = go (has_inbox old.now.schema) refl
    where
      go : (b : Bool) → has_inbox old.now.schema ≡ b → events ≡ held
      go true there = (opens.adopts there).only held (h.there there)
      go false absent = opens.none absent ∙ sym (h.none absent)

  pub opened_holds : Holds old.now events
  opened_holds = go (has_inbox old.now.schema) refl
    where
      go : (b : Bool) → has_inbox old.now.schema ≡ b → Holds old.now events
      go true there = any_holds old.now events (opens.adopts there).found
      go false absent = subst (λ l. Holds old.now l) (sym (opens.none absent)) (absent_holds old.now absent)

  pub opened_rows : KeepsRows old.now new.now
  opened_rows = go (has_inbox old.now.schema) refl
    where
      taken : Adopts old new events → IsAnyInbox old.now events → KeepsRows old.now new.now
      taken it (inl two) = service_same old.now new.now (it.same two)
      taken it (inr one) = service_upgraded old.now new.now (it.upgraded one)

      go : (b : Bool) → has_inbox old.now.schema ≡ b → KeepsRows old.now new.now
      go true there = let it = opens.adopts there in taken it it.found
      go false absent = service_gained old.now new.now (opens.creates absent).made.beside

  -- and of one of version 1 who looked on was told
  pub opened_tells : TellsUpgrade tells old.now
  opened_tells held box = subst (λ l. IsTold tells (length l)) same (opens.told (subst (IsOldInbox old.now) (sym same) box))
    where
      same : events ≡ held
      same = opened_events held (any_holds old.now held (inr box))

once_in : (db : Database) (held : List EventValue) → IsAnyInbox db held → append_new key_cmp [] held ≡ held
once_in db held (inl box) = box.once
once_in db held (inr box) = box.once

-- what a database holds stands there once each
pub held_once : (db : Database) (held : List EventValue) → Holds db held → append_new key_cmp [] held ≡ held
held_once db held h = go (has_inbox db.schema) refl
  where
    go : (b : Bool) → has_inbox db.schema ≡ b → append_new key_cmp [] held ≡ held
    go true e = once_in db held (h.there e)
    go false e = subst (λ l. append_new key_cmp [] l ≡ l) (sym (h.none e)) refl

pub both_ok : {T E : Type 0} (r : Result T E) (P Q : T → Type 0) → IfOk r P → IfOk r Q → IfOk r (λ x. P x × Q x)
both_ok (Ok x) P Q p q = (p, q)
both_ok (Err y) P Q p q = tt

pub on_ok : {T E : Type 0} (r : Result T E) (P : Type 0) → P → OnOk r P
on_ok (Ok x) P p = p
on_ok (Err y) P p = tt

pub on_err : {T E : Type 0} (r : Result T E) (P Q : Type 0) → (P → Q) → OnErr r P → OnErr r Q
on_err (Ok x) P Q f p = tt
on_err (Err y) P Q f p = f p

pub on_okay : {T E : Type 0} (r : Result T E) (P Q : Type 0) → (P → Q) → OnOk r P → OnOk r Q
on_okay (Ok x) P Q f p = f p
on_okay (Err y) P Q f p = tt

pub either_way : {T E : Type 0} (r : Result T E) (P : Type 0) → OnOk r P → OnErr r P → P
either_way (Ok x) P one other = one
either_way (Err y) P one other = other

pub at_okay : {T E : Type 0} (r : Result T E) (x : T) (P : Type 0) → r ≡ Ok x → OnOk r P → P
at_okay (Ok y) x P is p = p
at_okay (Err y) x P is p = absurd (cc)

-- ---- what was refused

-- a table that is opened is `Foreign` only where it is none of an inbox
pub no_inbox : (old new : State) (fault : TableFault) → RejectsOpening old new fault → fault ≡ table.Foreign → HasCleanDisk new → IsNoInbox old.now
no_inbox old new fault it is clean events box = (it.rejects (it.foreign is)).foreign clean is events box

pub table_foreign : (fault : TableFault) → of_table fault ≡ command.Foreign → fault ≡ table.Foreign
table_foreign table.OutOfMemory is = absurd (cc)
table_foreign table.Store is = absurd (cc)
table_foreign table.Foreign is = refl

-- a table is refused so
pub table_untold : (fault : TableFault) → IsUntold (of_table fault)
table_untold table.OutOfMemory = inl refl
table_untold table.Store = inr (inl refl)
table_untold table.Foreign = inr (inr refl)

-- a service is refused so where its rows are read
pub outbox_untold : (fault : OutboxFault) → (fault ≡ outbox.OutOfMemory) ⊎ ((fault ≡ outbox.Store) ⊎ (fault ≡ outbox.Foreign)) → IsUntold (of_outbox fault)
outbox_untold fault (inl is) = inl (ap of_outbox is)
outbox_untold fault (inr (inl is)) = inr (inl (ap of_outbox is))
outbox_untold fault (inr (inr is)) = inr (inr (ap of_outbox is))

-- and keeping
pub store_told : (fault : TableFault) → IsOfStore fault → (of_table fault ≡ command.OutOfMemory) ⊎ (of_table fault ≡ command.Store)
store_told fault (inl is) = inl (ap of_table is)
store_told fault (inr is) = inr (ap of_table is)

pub untold_so : (f : CommandFault) → (f ≡ command.OutOfMemory) ⊎ (f ≡ command.Store) → IsUntold f
untold_so f (inl is) = inl is
untold_so f (inr is) = inr (inl is)

pub known_so : (f : CommandFault) → (f ≡ command.OutOfMemory) ⊎ (f ≡ command.Store) → f ≡ command.Foreign → ⊥
known_so f (inl is) foreign = let e : command.OutOfMemory ≡ command.Foreign = sym is ∙ foreign in cc
known_so f (inr is) foreign = let e : command.Store ≡ command.Foreign = sym is ∙ foreign in cc
