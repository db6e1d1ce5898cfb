-- The service that a database has, before and after a command.
use Rattle.std.proofs.Common.{◌≡◌, inl, inr, Bool, ℕ, List, [], ◌∷◌, ◌++◌, true, false, Some, IsTrue, sym, ap, subst, refl, arith, ◌∙◌}
use Rattle.sqlite_trees.specs.Tree.{Trees}
use Rattle.sqlite.specs.Effect.{Database}
use Rattle.sqlite.specs.State.{State, HasCleanDisk}
use Rattle.attributes.specs.Event.{EventValue}
use Rattle.outbox.specs.Call.{Accepts, IsServiceReading, LeavesAsBefore, MayAccept, MayFound, RefusesCommand}
use Rattle.outbox.specs.Order.{Accepted}
use Rattle.outbox.specs.Row.{rows_after}
use Rattle.database_layout.specs.Layout.{has_name}
use Rattle.outbox.specs.Service.{IsService}
use Rattle.outbox.specs.Opening.{LeavesOrMakes, OpensService}
use Rattle.outbox.specs.Shown.{HasNoOther, Shown, StandsWithRows}
use Rattle.outbox.specs.declared.fault.OutboxFault.{OutboxFault}
use Rattle.outbox.specs.declared.fault.OutboxFault.TheVariants as outbox
use Rattle.outbox.specs.declared.status.Status.{Status}
use Rattle.relay.specs.Relay.{ForNextRows}
use Rattle.databases.specs.Fault.{IsOfOrder, of_outbox}
use Rattle.databases.specs.Held.{HasAnother, IsNoOrders, IsOrdered, IsServiceThere, KeepsEvents, KeepsService, LeavesOrOrders, MayOrder, Orders, RefusesOrder, Serves, ShowsRows}
use Rattle.databases.specs.Print.{batch_line, event_line}
use Rattle.databases.specs.Service.{LeavesOrFounds}
use Rattle.databases.specs.declared.fault.CommandFault.{CommandFault}
use Rattle.databases.specs.declared.fault.CommandFault.TheVariants as command
use Rattle.database_commands.specs.steps.Served.{LeavesOrAccepts}
use Rattle.databases.proofs.BesideLemmas.{events_beside, events_gained, events_over, events_same}
use Rattle.database_commands.proofs.RowLemmas.{no_service}

-- a service that is new
pub made_served : (old new : Database) (given source : List ℕ) (base : ℕ) → ((s : List ℕ) (b : ℕ) (commands : List Accepted) → IsService old s b commands → ⊥) → IsService new given 0 [] → source ≡ given → base ≡ 0 → IsServiceThere given old source base new
made_served old new given source base first made source_is base_is s b commands (inl box) = absurd (first s b commands box)
made_served old new given source base first made source_is base_is s b commands (inr (lacks, it)) = (
  source_is ∙ sym it.source_is,
  base_is ∙ sym it.base_is,
  subst (λ x. IsService new x b commands) (sym it.source_is) (subst (λ n. IsService new given n commands) (sym it.base_is) (subst (λ l. IsService new given 0 l) (sym it.none) made)),
)

-- a service that was there
pub taken_served : (old new : Database) (given source : List ℕ) (base : ℕ) → has_name old.schema ≡ true → HasNoOther old source base → new ≡ old → IsServiceThere given old source base new
taken_served old new given source base there only is s b commands (inl box) =
    let same = only s b commands box in
    (same.0, same.1, subst (λ db. IsService db s b commands) (sym is) box)
taken_served old new given source base there only is s b commands (inr (lacks, it)) = absurd (let e : ◌≡◌ {A = Bool} true false = sym there ∙ lacks in cc)

module _ (given : List ℕ) (old mid : Database) (source : List ℕ) (base : ℕ) (served : IsServiceThere given old source base mid) where
  here : (s : List ℕ) (b : ℕ) (commands : List Accepted) → Serves old given s b commands → IsService mid source base commands
  here s b commands h =
      let it = served s b commands h in
      subst (λ x. IsService mid x base commands) (sym it.0) (subst (λ n. IsService mid s n commands) (sym it.1) it.2)

  pub ordered : (new : Database) (c : Accepted) (e : EventValue) (text : List ℕ) → Accepts source base c mid new e → text ≡ event_line e → Orders given c old new text
  ordered new c e text accepts line s b commands h =
      let it = served s b commands h in
      let done = accepts commands (here s b commands h) in
      subst (λ x. IsOrdered x b commands c new text) it.0 (subst (λ n. IsOrdered source n commands c new text) it.1 (record { fits = done.0; kept = done.1; line = line ∙ ap event_line done.2 }))

  pub refused_order : (status : Status) (order : ℕ) (f : CommandFault) → ((why : OutboxFault) × (f ≡ of_outbox why) × RefusesCommand source base status order mid why) → RefusesOrder given status order old f
  refused_order status order f (why, is, refuses) s b commands h =
      let it = served s b commands h in
      (why, subst (λ n. Rattle.outbox.specs.Order.refusal n commands status order ≡ Some why) it.1 (refuses commands (here s b commands h)), is)

  pub kept_served : (new : Database) → new ≡ mid → KeepsService given old new
  kept_served new is s b commands h = inl (subst (λ db. IsService db s b commands) (sym is) (served s b commands h).2)

  pub shown_rows : (after : ℕ) (text : List ℕ) → ForNextRows source base after mid (λ rows. text ≡ batch_line rows) → ShowsRows given after old text
  shown_rows after text shows s b commands h =
      let it = served s b commands h in
      subst (λ x. text ≡ batch_line (rows_after x b commands after 100)) it.0 (subst (λ n. text ≡ batch_line (rows_after source n commands after 100)) it.1 (shows commands (here s b commands h)))

-- a service that was only read
pub kept_read : (given : List ℕ) (old : Database) (mid new : State) (source : List ℕ) (base : ℕ) → IsServiceThere given old source base mid.now → IsServiceReading mid new → HasCleanDisk new → IsTrue new.is_open → KeepsService given old new.now
kept_read given old mid new source base served same clean still s b commands h =
    let box = (served s b commands h).2 in
    inl (subst (λ db. IsService db s b commands) (sym (same.same clean still box.layout box.schema).0) box)

-- a service that was opened, with what is given where none was there
module _ {S : Type 0} (given : List ℕ) (old : State) (it : Shown S) (new : State) (opens : OpensService given 0 old it new) (clean : HasCleanDisk new) where
  pub opened_served : IsServiceThere given old.now it.source it.base new.now
  opened_served = go (has_name old.now.schema) refl
    where
      go : (b : Bool) → has_name old.now.schema ≡ b → IsServiceThere given old.now it.source it.base new.now
      go true there = taken_served old.now new.now given it.source it.base there (opens.exact clean there) ((opens.left there).same clean (opens.stays_open clean))
      go false absent = made_served old.now new.now given it.source it.base (opens.first absent) (opens.made clean absent).service (opens.given absent).0 (opens.given absent).1

  pub opened_other : (it.source ≡ given → ⊥) → HasAnother given old.now × (new.now ≡ old.now)
  opened_other differs = go (has_name old.now.schema) refl
    where
      go : (b : Bool) → has_name old.now.schema ≡ b → HasAnother given old.now × (new.now ≡ old.now)
      go true there =
          let same = (opens.left there).same clean (opens.stays_open clean) in
          let stands = opens.stands clean in (
            record {
              source = it.source;
              base = it.base;
              commands = stands.commands;
              service = subst (λ db. IsService db it.source it.base stands.commands) same stands.table;
              other = differs;
            },
            same,
          )
      go false absent = absurd (differs (opens.given absent).0)

  pub opened_beside : KeepsEvents old.now new.now
  opened_beside = go (has_name old.now.schema) refl
    where
      go : (b : Bool) → has_name old.now.schema ≡ b → KeepsEvents old.now new.now
      go true there = events_same old.now new.now ((opens.left there).same clean (opens.stays_open clean))
      go false absent = events_gained old.now new.now (opens.made clean absent).gains

-- the inbox beside a service that was only read
pub beside_read : (old : Database) (mid new : State) (source : List ℕ) (base last : ℕ) → KeepsEvents old mid.now → StandsWithRows mid.now source base last → IsServiceReading mid new → HasCleanDisk new → IsTrue new.is_open → KeepsEvents old new.now
beside_read old mid new source base last keeps stands same clean still =
    events_over old mid.now new.now keeps (events_same mid.now new.now (same.same clean still stands.table.layout stands.table.schema).0)

-- a database that is as it was
pub kept_all : (given : List ℕ) (old new : Database) → new ≡ old → KeepsService given old new
kept_all given old new is s b commands h = subst (λ db. Serves db given s b commands) (sym is) h

-- ---- what a stop leaves

-- in making a service
pub made_may_order : (given : List ℕ) (c : Accepted) (old : Database) (trees : Trees) → has_name old.schema ≡ false → MayFound given 0 old trees → MayOrder given c old trees
made_may_order given c old trees lacks may = record {
  db = may.db;
  are = may.are;
  sound = may.sound;
  serves = λ s b commands h. inl (made_served old may.db given given 0 (λ t n others box. no_service old t n others ⊥ lacks box) may.founded.service refl refl s b commands h).2;
  beside = events_gained old may.db may.founded.gains;
}

-- in giving it a command
pub accepted_may_order : (given : List ℕ) (c : Accepted) (old mid : Database) (source : List ℕ) (base : ℕ) (trees : Trees) → IsServiceThere given old source base mid → KeepsEvents old mid → MayAccept source base c mid trees → MayOrder given c old trees
accepted_may_order given c old mid source base trees served keeps may = record {
  db = may.db;
  are = may.are;
  sound = may.sound;
  serves = λ s b commands h.
      let it = served s b commands h in
      inr (subst (λ x. IsService may.db x b (commands ++ c ∷ [])) it.0 (subst (λ n. IsService may.db source n (commands ++ c ∷ [])) it.1 (may.service commands (here given old mid source base served s b commands h))));
  beside = events_over old mid may.db keeps (events_beside mid may.db may.beside);
}

pub made_or_orders : (given : List ℕ) (c : Accepted) (old new : State) → LeavesOrMakes given 0 old new → LeavesOrOrders given c old new
made_or_orders given c old new leaves clean db may = elim (leaves clean db may) [
  | inl before ↦ inl before
  | inr (lacks, made) ↦ inr (made_may_order given c old.now db lacks made)
]

pub leaves_or_orders : (given : List ℕ) (c : Accepted) (old mid new : State) (source : List ℕ) (base : ℕ) → LeavesOrMakes given 0 old mid → (HasCleanDisk mid → IsServiceThere given old.now source base mid.now)
    → (HasCleanDisk mid → KeepsEvents old.now mid.now) → (HasCleanDisk mid → IsTrue mid.is_open) → (HasCleanDisk new → HasCleanDisk mid) → LeavesOrAccepts source base c mid new → LeavesOrOrders given c old new
leaves_or_orders given c old mid new source base first served beside opened earlier last clean db may =
    let early = earlier clean in
    elim (last clean (opened early) db may) [
      | inl before ↦ made_or_orders given c old mid first early db before
      | inr done ↦ inr (accepted_may_order given c old.now mid.now source base db (served early) (beside early) done)
    ]

-- in reading its rows
pub made_or_founds : (given : List ℕ) (old new : State) → LeavesOrMakes given 0 old new → LeavesOrFounds given 0 old new
made_or_founds given old new leaves clean db may = elim (leaves clean db may) [ inl before ↦ inl before | inr (lacks, made) ↦ inr made ]

pub read_or_founds : (given : List ℕ) (old mid new : State) (source : List ℕ) (base last : ℕ) → LeavesOrMakes given 0 old mid → (HasCleanDisk mid → StandsWithRows mid.now source base last) → IsServiceReading mid new → LeavesAsBefore mid new
    → LeavesOrFounds given 0 old new
read_or_founds given old mid new source base last first stands same leaves clean db may =
    let early : HasCleanDisk mid = omega (arith, same.clean, clean) in
    let table = (stands early).table in
    made_or_founds given old mid first early db (leaves clean table.layout table.schema db may)

-- a service isn't refused for another source
pub not_another : (f : OutboxFault) → of_outbox f ≡ command.AnotherSource → ⊥
not_another outbox.OutOfMemory is = cc
not_another outbox.OrderExists is = cc
not_another outbox.NoOrder is = cc
not_another outbox.WrongState is = cc
not_another outbox.Full is = cc
not_another outbox.Store is = cc
not_another outbox.Foreign is = cc

-- what isn't to be had is refused as an order is
pub not_to_be_had : (f : CommandFault) → IsNoOrders f → IsOfOrder f
not_to_be_had f (inl is) = inr (outbox.OutOfMemory, is)
not_to_be_had f (inr (inl is)) = inr (outbox.Store, is)
not_to_be_had f (inr (inr (inl is))) = inr (outbox.Foreign, is)
not_to_be_had f (inr (inr (inr is))) = inl is
