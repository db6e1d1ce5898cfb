-- What lies beside the tables that a command makes or writes.
use Rattle.std.proofs.Common.{◌≡◌, ◌∙◌, ℕ, suc, List, Bool, true, false, inl, inr, sym, ap, subst, refl}
use Rattle.std.specs.Prelude.{IsPermutation}
use Rattle.sqlite_tied.specs.Compute.{everything}
use Rattle.sqlite.specs.Effect.{Database}
use Rattle.attributes.specs.Event.{EventValue}
use Rattle.database_layout.specs.Beside.{GainsTables, HasAnyInbox, KeepsBeside}
use Rattle.database_layout.specs.Layout.{GainsInbox2, GainsService, HasInbox, HasService, has_inbox, has_name, schema_in, service_tree}
use Rattle.database_layout.specs.Making.{upgraded}
use Rattle.database_layout.specs.declared.layout.Layout.{Layout}
use Rattle.database_layout.specs.declared.layout.Layout.TheVariants.{Empty, Service, Inbox, InboxService, ServiceInbox, Inbox2, Inbox2Service, ServiceInbox2, Upgraded, UpgradedService, ServiceUpgraded, ShiftedUpgraded}
use Rattle.database_layout.proofs.LayoutLemmas.{same_inbox}
use Rattle.inbox_table.specs.Beside.{GainsInbox, HasSameService, KeepsServiceBeside, UpgradesTables}
use Rattle.inbox_table.specs.Rows.{IsAnyInbox, IsListed, rows_from}
use Rattle.inbox_table.specs.Version.{HasTable}
use Rattle.inbox_table.specs.declared.version.Version.{Version}
use Rattle.inbox_table.specs.declared.version.Version.TheVariants.{One, Two}
use Rattle.inbox_table.proofs.HomeLemmas.{not_both_versions}
use Rattle.outbox.specs.Order.{Accepted}
use Rattle.outbox.specs.Layout.{first_tree}
use Rattle.outbox.specs.Service.{AreOrders, IsService, outbox_rows}
use Rattle.outbox.proofs.LayoutLemmas.{same_tree}
use Rattle.databases.specs.Held.{Holds, KeepsEvents, KeepsRows}

-- ---- an inbox, where a service is made or written

any : (v : Version) (l : Layout) → HasTable v l → HasAnyInbox l
any One l h = inl h
any Two l h = inr h

-- an inbox is one of version 1 or one of version 2
its_version : (v : Version) (l m : Layout) → HasTable v l → HasAnyInbox m → schema_in l ≡ schema_in m → HasTable v m
its_version One l m has (inl one) e = one
its_version One l m has (inr two) e = absurd (not_both_versions l m has two e)
its_version Two l m has (inl one) e = absurd (not_both_versions m l one has (sym e))
its_version Two l m has (inr two) e = two

after_service : (v : Version) (before after : Layout) → HasTable v before → GainsService before after → HasTable v after × HasAnyInbox before
after_service One Empty after has gains = absurd has
after_service One Service after has gains = absurd has
after_service One Inbox after has gains = (subst (HasTable One) (sym gains) tt, inl tt)
after_service One InboxService after has gains = absurd gains
after_service One ServiceInbox after has gains = absurd gains
after_service One Inbox2 after has gains = absurd has
after_service One Inbox2Service after has gains = absurd has
after_service One ServiceInbox2 after has gains = absurd has
after_service One Upgraded after has gains = absurd has
after_service One UpgradedService after has gains = absurd has
after_service One ServiceUpgraded after has gains = absurd has
after_service One ShiftedUpgraded after has gains = absurd has
after_service Two Empty after has gains = absurd has
after_service Two Service after has gains = absurd has
after_service Two Inbox after has gains = absurd has
after_service Two InboxService after has gains = absurd has
after_service Two ServiceInbox after has gains = absurd has
after_service Two Inbox2 after has gains = (subst (HasTable Two) (sym gains) tt, inr tt)
after_service Two Inbox2Service after has gains = absurd gains
after_service Two ServiceInbox2 after has gains = absurd gains
after_service Two Upgraded after has gains = (subst (HasTable Two) (sym gains) tt, inr tt)
after_service Two UpgradedService after has gains = absurd gains
after_service Two ServiceUpgraded after has gains = absurd gains
after_service Two ShiftedUpgraded after has gains = absurd gains

module _ (old new : Database) (held : List EventValue) where
  listed_beside : KeepsBeside old new → (v : Version) → IsListed v old held → IsListed v new held
  listed_beside k v box = record {
    layout = box.layout;
    has = box.has;
    schema = k.schema ∙ box.schema;
    rows = subst (IsPermutation (rows_from v 1 held)) (sym (k.inbox box.layout (any v box.layout box.has) box.schema)) box.rows;
    numbered = box.numbered;
    once = box.once;
  }

  listed_gained : GainsTables old new → (v : Version) → IsListed v old held → IsListed v new held
  listed_gained g v box =
      let one : schema_in box.layout ≡ schema_in g.before = sym box.schema ∙ g.was in
      let there = same_inbox g.before box.layout (any v box.layout box.has) (sym one) in
      let gained = after_service v g.before g.after (its_version v box.layout g.before box.has there.0 one) g.gains in
      record {
        layout = g.after;
        has = gained.0;
        schema = g.is;
        rows = subst (IsPermutation (rows_from v 1 held)) (sym (g.inbox gained.1 ∙ ap old.trees there.1)) box.rows;
        numbered = box.numbered;
        once = box.once;
      }

still : (before after : Layout) → GainsService before after → has_inbox (schema_in after) ≡ has_inbox (schema_in before)
unfolding everything
still Empty after gains = subst (λ l. has_inbox (schema_in l) ≡ has_inbox (schema_in Empty)) (sym gains) refl
still Service after gains = absurd gains
still Inbox after gains = subst (λ l. has_inbox (schema_in l) ≡ has_inbox (schema_in Inbox)) (sym gains) refl
still InboxService after gains = absurd gains
still ServiceInbox after gains = absurd gains
still Inbox2 after gains = subst (λ l. has_inbox (schema_in l) ≡ has_inbox (schema_in Inbox2)) (sym gains) refl
still Inbox2Service after gains = absurd gains
still ServiceInbox2 after gains = absurd gains
still Upgraded after gains = subst (λ l. has_inbox (schema_in l) ≡ has_inbox (schema_in Upgraded)) (sym gains) refl
still UpgradedService after gains = absurd gains
still ServiceUpgraded after gains = absurd gains
still ShiftedUpgraded after gains = absurd gains

any_version : (old new : Database) (held : List EventValue) → ((v : Version) → IsListed v old held → IsListed v new held) → IsAnyInbox old held → IsAnyInbox new held
any_version old new held f (inl box) = inl (f Two box)
any_version old new held f (inr box) = inr (f One box)

-- what a database holds stays, where a service beside it is written
pub events_beside : (old new : Database) → KeepsBeside old new → KeepsEvents old new
events_beside old new k held h = record {
  there = λ has. any_version old new held (listed_beside old new held k) (h.there (subst (λ s. has_inbox s ≡ true) k.schema has));
  none = λ hasnt. h.none (subst (λ s. has_inbox s ≡ false) k.schema hasnt);
}

-- and where one is made
pub events_gained : (old new : Database) → GainsTables old new → KeepsEvents old new
events_gained old new g held h =
    let same : has_inbox new.schema ≡ has_inbox old.schema = ap has_inbox g.is ∙ still g.before g.after g.gains ∙ sym (ap has_inbox g.was) in
    record {
      there = λ has. any_version old new held (listed_gained old new held g) (h.there (sym same ∙ has));
      none = λ hasnt. h.none (sym same ∙ hasnt);
    }

pub events_over : (old mid new : Database) → KeepsEvents old mid → KeepsEvents mid new → KeepsEvents old new
events_over old mid new first then held h = then held (first held h)

pub events_same : (old new : Database) → new ≡ old → KeepsEvents old new
events_same old new is held h = subst (λ db. Holds db held) (sym is) h

-- ---- a service, where an inbox is made or written

serves : (l : Layout) → HasService l → has_name (schema_in l) ≡ true
unfolding everything
serves Empty h = absurd h
serves Service h = refl
serves Inbox h = absurd h
serves InboxService h = refl
serves ServiceInbox h = refl
serves Inbox2 h = absurd h
serves Inbox2Service h = refl
serves ServiceInbox2 h = refl
serves Upgraded h = absurd h
serves UpgradedService h = refl
serves ServiceUpgraded h = refl
serves ShiftedUpgraded h = refl

inbox_alone : has_name (schema_in Inbox) ≡ false
unfolding everything
inbox_alone = refl

no_service : (l m : Layout) → HasService l → has_name (schema_in m) ≡ false → schema_in l ≡ schema_in m → ⊥
no_service l m has hasnt e = absurd (let no : ◌≡◌ {A = Bool} true false = sym (serves l has) ∙ ap has_name e ∙ hasnt in cc)

module _ (old new : Database) (source : List ℕ) (base : ℕ) (commands : List Accepted) where
  -- the three tables of a service are as they were, wherever they lie now
  service_at : (after : Layout) (has : HasService after) → new.schema ≡ schema_in after → (box : IsService old source base commands)
      → (before : Layout) (had : HasService before) → schema_in box.layout.0 ≡ schema_in before → HasSameService before after old new → IsService new source base commands
  service_at after has is box before had e same =
      let tree : first_tree box.layout ≡ service_tree before = same_tree box.layout (before, had) e in
      record {
        layout = (after, has);
        schema = is;
        service = same.service ∙ ap old.trees (sym tree) ∙ box.service;
        orders = subst (λ rows. AreOrders rows commands) (sym (same.orders ∙ ap (λ n. old.trees (suc n)) (sym tree))) box.orders;
        outbox = subst (IsPermutation (outbox_rows (suc base) commands)) (sym (same.outbox ∙ ap (λ n. old.trees (suc (suc n))) (sym tree))) box.outbox;
        accepted = box.accepted;
      }

  kept : KeepsServiceBeside old new → IsService old source base commands → IsService new source base commands
  kept k box = service_at box.layout.0 box.layout.1 (k.schema ∙ box.schema) box box.layout.0 box.layout.1 refl (k.service box.layout.0 box.layout.1 box.schema)

  gained : GainsInbox old new → IsService old source base commands → IsService new source base commands
  gained g box = go g.before g.after g.gains (sym box.schema ∙ g.was) g.is g.service
    where
      go : (before after : Layout) → GainsInbox2 before after → schema_in box.layout.0 ≡ schema_in before → new.schema ≡ schema_in after
          → (HasService before → HasSameService before after old new) → IsService new source base commands
      go Empty after gains e is same = absurd (no_service box.layout.0 Empty box.layout.1 refl e)
      go Service after gains e is same =
          service_at after (subst HasService (sym gains) tt) is box Service tt e (same tt)
      go _ after gains e is same = absurd gains

  upgrades : UpgradesTables old new → IsService old source base commands → IsService new source base commands
  upgrades u box = go u.before u.has (sym box.schema ∙ u.was) u.is u.service
    where
      go : (before : Layout) → HasInbox before → schema_in box.layout.0 ≡ schema_in before → new.schema ≡ schema_in (upgraded before)
          → (HasService before → HasSameService before (upgraded before) old new) → IsService new source base commands
      go Inbox has e is same = absurd (no_service box.layout.0 Inbox box.layout.1 inbox_alone e)
      go InboxService has e is same = service_at (upgraded InboxService) tt is box InboxService tt e (same tt)
      go ServiceInbox has e is same = service_at (upgraded ServiceInbox) tt is box ServiceInbox tt e (same tt)
      go _ has e is same = absurd has

-- a service stays, where events are kept beside it
pub service_kept : (old new : Database) → KeepsServiceBeside old new → KeepsRows old new
service_kept old new k source base commands box = kept old new source base commands k box

-- where an inbox is made
pub service_gained : (old new : Database) → GainsInbox old new → KeepsRows old new
service_gained old new g source base commands box = gained old new source base commands g box

-- and where one of version 1 gives way
pub service_upgraded : (old new : Database) → UpgradesTables old new → KeepsRows old new
service_upgraded old new u source base commands box = upgrades old new source base commands u box

pub service_over : (old mid new : Database) → KeepsRows old mid → KeepsRows mid new → KeepsRows old new
service_over old mid new first then source base commands box = then source base commands (first source base commands box)

pub service_same : (old new : Database) → new ≡ old → KeepsRows old new
service_same old new is source base commands box = subst (λ db. IsService db source base commands) (sym is) box
