-- From what a crash may leave of a table to the list that is found.
use Rattle.std.proofs.Common.{◌≡◌, ◌≢◌, ◌⊎◌, ◌∙◌, List, [], true, false, sym, ap, subst, inl, inr, arith}
use Rattle.sqlite_disk.specs.declared.Disk.{Ghosts}
use Rattle.sqlite_store.specs.declared.store.FileStore.{FileStore}
use Rattle.sqlite.specs.Effect.{Database, IsDatabase}
use Rattle.sqlite.specs.Files.{file_state}
use Rattle.sqlite.specs.Held.{Held}
use Rattle.sqlite.specs.State.{HasCleanDisk, State, Survives}
use Rattle.attributes.specs.Event.{EventValue}
use Rattle.inbox.specs.KeyOrder.{key_cmp}
use Rattle.inbox.specs.Ordered.{append_new}
use Rattle.database_layout.specs.Law.{TreesTellTables}
use Rattle.database_layout.specs.Layout.{has_inbox}
use Rattle.inbox_table.specs.Calls.{Adopts, MayTake, MayUpgrade, Rejects}
use Rattle.inbox_table.specs.Law.{StopsLeaveAList}
use Rattle.inbox_table.specs.Rows.{IsAnyInbox, IsInbox, IsOldInbox}
use Rattle.inbox_table.specs.declared.fault.TableFault.{TableFault}
use Rattle.inbox_table.specs.declared.fault.TableFault.TheVariants.{Foreign}
use Rattle.reopening.specs.Crash.{IsReopened}
use Rattle.reopening.specs.Lists.{AdoptsUntil, FindsList, HadDatabase, HadList, HadNoList, KeepsUntil, KnowsList, MakesUntil, OpensUntil, WereHeld}

module _ (old stopped again : State) (re : IsReopened stopped again) where
  -- the trees that are found are those of before, or those that the call commits
  trees_found : (held L : List EventValue) → HadList old held → KeepsUntil old L stopped
      → (again.now.trees ≡ old.now.trees) ⊎ MayTake L old.now again.now.trees
  trees_found held L had until =
      let shown = ap (λ (d : Database). d.trees) re.opens.clean in
      elim (until.crash re.clean again.committed.trees re.found) [
        | inl before ↦ inl (shown ∙ had.settled had.is_open again.committed.trees before)
        | inr after ↦ inr (subst (MayTake L old.now) (sym shown) (after had.is_open))
      ]

  pub list_kept : StopsLeaveAList → (held L : List EventValue) → HadList old held → KeepsUntil old L stopped
      → IsInbox again.now held ⊎ IsInbox again.now (append_new key_cmp held L)
  list_kept law held L had until = law L held old.now again.now had.sound re.sound had.list (trees_found held L had until)

  -- the database that is found is that of before, or has a table without events
  pub list_made : TreesTellTables → HadNoList old → MakesUntil old stopped → (again.now ≡ old.now) ⊎ IsInbox again.now []
  list_made tell had until =
      let shown = ap (λ (d : Database). d.trees) re.opens.clean in
      elim (until.crash re.clean again.committed.trees re.found) [
        | inl before ↦ inl (tell old.now again.now had.sound re.sound (shown ∙ had.settled had.is_open again.committed.trees before))
        | inr after ↦ inr (subst (λ (d : Database). IsInbox d []) (sym (tell after.db again.now after.sound re.sound (shown ∙ after.are))) after.made.table)
      ]

  -- the database that is found is that of before, or has in version 2 the events that it had in version 1
  pub list_upgraded : TreesTellTables → HadDatabase old → AdoptsUntil old stopped
      → (again.now ≡ old.now) ⊎ ((events : List EventValue) × IsOldInbox old.now events × IsInbox again.now events)
  list_upgraded tell had until =
      let shown = ap (λ (d : Database). d.trees) re.opens.clean in
      elim (until.crash re.clean again.committed.trees re.found) [
        | inl before ↦ inl (tell old.now again.now had.sound re.sound (shown ∙ had.settled had.is_open again.committed.trees before))
        | inr after ↦ inr (after.events, after.was, subst (λ (d : Database). IsInbox d after.events) (sym (tell after.db again.now after.sound re.sound (shown ∙ after.are))) after.is)
      ]

  -- or the table was made, where none was
  pub list_opened : TreesTellTables → HadDatabase old → OpensUntil old stopped
      → (again.now ≡ old.now) ⊎ (((has_inbox old.now.schema ≡ false) × IsInbox again.now [])
      ⊎ ((has_inbox old.now.schema ≡ true) × ((events : List EventValue) × IsOldInbox old.now events × IsInbox again.now events)))
  list_opened tell had until =
      let shown = ap (λ (d : Database). d.trees) re.opens.clean in
      elim (until.crash re.clean again.committed.trees re.found) [
        | inl before ↦ inl (tell old.now again.now had.sound re.sound (shown ∙ had.settled had.is_open again.committed.trees before))
        | inr (inl made) ↦ inr (inl (made.0, subst (λ (d : Database). IsInbox d []) (sym (tell made.1.db again.now made.1.sound re.sound (shown ∙ made.1.are))) made.1.made.table))
        | inr (inr after) ↦ inr (inr (
          after.0,
          (
            after.1.events,
            after.1.was,
            subst (λ (d : Database). IsInbox d after.1.events) (sym (tell after.1.db again.now after.1.sound re.sound (shown ∙ after.1.are))) after.1.is,
          ),
        ))
      ]

-- a table isn't both there and missing
never_both : (db : Database) → has_inbox db.schema ≡ true → has_inbox db.schema ≡ false → ⊥
never_both db there none = let bad : true ≡ false = sym there ∙ none in cc

module _ {D : Type 0} {g : Ghosts D} (law : StopsLeaveAList) (c again : Held (FileStore D g)) (new : State)
    (opened : HasCleanDisk (file_state again) → IsReopened (file_state c) (file_state again))
    (survives : Survives (file_state again) new (MayUpgrade (file_state again).now)) (clean : HasCleanDisk new) where
  is_reopened : IsReopened (file_state c) (file_state again)
  is_reopened = opened (omega (arith, survives.clean, clean))

  -- a table of version 2 is taken as it is, in a database that obeys its own schema
  stays_sound : (events : List EventValue) → Adopts (file_state again) new events → (m : List EventValue) → IsInbox (file_state again).now m → IsDatabase new.now
  stays_sound events it m box =
      let mine : IsInbox (file_state again).now events = subst (λ (z : List EventValue). IsInbox (file_state again).now z) (sym (it.only m (inl box))) box in
      subst IsDatabase (sym (it.same mine)) is_reopened.sound

  -- the events of a table of version 1 that gave way
  gave_way : (old : Held (FileStore D g)) (events m : List EventValue) → Adopts (file_state again) new events
      → IsOldInbox (file_state old).now m → IsInbox (file_state again).now m → IsAnyInbox (file_state old).now events
  gave_way old events m it was is = inr (subst (λ (z : List EventValue). IsOldInbox (file_state old).now z) (sym (it.only m (inl is))) was)

  any_before : (old : Held (FileStore D g)) (events : List EventValue) → Adopts (file_state again) new events
      → (file_state again).now ≡ (file_state old).now → IsAnyInbox (file_state old).now events
  any_before old events it before = subst (λ (d : Database). IsAnyInbox d events) before it.found

  list_adopted : TreesTellTables → (events : List EventValue) → Adopts (file_state again) new events → (old : Held (FileStore D g))
      → HadDatabase (file_state old) → AdoptsUntil (file_state old) (file_state c) → IsAnyInbox (file_state old).now events
  list_adopted tell events it old had until = elim (list_upgraded (file_state old) (file_state c) (file_state again) is_reopened tell had until) [
    | inl before ↦ any_before old events it before
    | inr after ↦ gave_way old events after.0 it after.1 after.2
  ]

  were_held : TreesTellTables → (events : List EventValue) → Adopts (file_state again) new events
      → (has_inbox (file_state again).now.schema ≡ false → ⊥) → (old : Held (FileStore D g)) → HadDatabase (file_state old)
      → OpensUntil (file_state old) (file_state c) → WereHeld (file_state old).now events
  were_held tell events it there old had until = elim (list_opened (file_state old) (file_state c) (file_state again) is_reopened tell had until) [
    | inl before ↦ record {
      there = λ has. any_before old events it before;
      none = λ none. absurd (there (ap (λ (d : Database). has_inbox d.schema) before ∙ none));
    }
    | inr (inl made) ↦ record {
      there = λ has. absurd (never_both (file_state old).now has made.0);
      none = λ none. it.only [] (inl made.1);
    }
    | inr (inr after) ↦ record {
      there = λ has. gave_way old events after.1.0 it after.1.1 after.1.2;
      none = λ none. absurd (never_both (file_state old).now after.0 none);
    }
  ]

  pub list_found : TreesTellTables → (events : List EventValue) → (HasCleanDisk new → Adopts (file_state again) new events)
      → (has_inbox (file_state again).now.schema ≡ false → ⊥) → FindsList c new events
  list_found tell events adopts there =
      let it = adopts clean in
      record {
        clean = is_reopened.clean;
        kept = λ old held L had until. elim (list_kept (file_state old) (file_state c) (file_state again) is_reopened law held L had until) [
          | inl before ↦ (inl (it.only held (inl before)), stays_sound events it held before)
          | inr after ↦ (inr (it.only (append_new key_cmp held L) (inl after)), stays_sound events it (append_new key_cmp held L) after)
        ];
        made = λ old had until. elim (list_made (file_state old) (file_state c) (file_state again) is_reopened tell had until) [
          | inl before ↦ absurd (there (ap (λ (d : Database). has_inbox d.schema) before ∙ had.list))
          | inr after ↦ (it.only [] (inl after), stays_sound events it [] after)
        ];
        opened = were_held tell events it there;
        adopted = list_adopted tell events it;
        list = it.is;
        is_open = it.stays_open;
        settled = it.settled;
      }

  module _ (fault : TableFault) (rejects : Rejects (file_state again) new fault) where
    is_foreign : (m : List EventValue) → IsAnyInbox (file_state again).now m → fault ≢ Foreign
    is_foreign m box foreign = rejects.foreign clean foreign m box

    was_foreign : (old : Held (FileStore D g)) (held : List EventValue) → IsAnyInbox (file_state old).now held
        → (file_state again).now ≡ (file_state old).now → fault ≢ Foreign
    was_foreign old held box before = is_foreign held (subst (λ (d : Database). IsAnyInbox d held) (sym before) box)

    pub list_known : TreesTellTables → KnowsList c fault
    list_known tell = record {
      kept = λ old held L had until. elim (list_kept (file_state old) (file_state c) (file_state again) is_reopened law held L had until) [
        | inl before ↦ is_foreign held (inl before)
        | inr after ↦ is_foreign (append_new key_cmp held L) (inl after)
      ];
      opened = λ old held had box until. elim (list_opened (file_state old) (file_state c) (file_state again) is_reopened tell had until) [
        | inl before ↦ was_foreign old held box before
        | inr (inl made) ↦ is_foreign [] (inl made.1)
        | inr (inr after) ↦ is_foreign after.1.0 (inl after.1.2)
      ];
      adopted = λ old held had box until. elim (list_upgraded (file_state old) (file_state c) (file_state again) is_reopened tell had until) [
        | inl before ↦ was_foreign old held box before
        | inr after ↦ is_foreign after.0 (inl after.2)
      ];
    }
