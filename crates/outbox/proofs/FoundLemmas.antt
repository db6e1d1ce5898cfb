-- The tables that were found are those of a service.
use Rattle.std.proofs.Common.{◌≡◌, ◌≢◌, ◌≤◌, Bool, true, false, ℕ, suc, List, [], ◌∷◌, IsTrue, refl, sym, ap, subst, ◌∙◌, arith, IsPermutation}
use Rattle.sqlite_value.specs.Order.{Row}
use Rattle.sqlite_trees.specs.View.{doubt}
use Rattle.sqlite.specs.Effect.{Database}
use Rattle.sqlite.specs.State.{State, HasCleanDisk, IsLive, Shown}
use Rattle.std.specs.BTreeMap.{get}
use Rattle.std.proofs.Common.{nat_cmp}
use Rattle.outbox.specs.Order.{Accepted, AreAccepted, status_of}
use Rattle.database_layout.specs.Layout.{HasService, has_name, lacks_name, schema_in as whole_schema}
use Rattle.database_layout.specs.declared.layout.Layout.{Layout}
use Rattle.outbox.specs.Layout.{first_tree, schema_in_layout}
use Rattle.outbox.specs.Service.{service_row, outbox_rows, AreOrders, IsService}
use Rattle.outbox.specs.Shown.{CountsOrders, HasNoOther, IsAllowed, IsNoService, StandsWithRows}
use Rattle.outbox.specs.Call.{IsServiceReading, Leaves, LeavesAsBefore}
use Rattle.outbox.specs.steps.Change.{ShowOrders, stored_rows, shown_service}
use Rattle.outbox.specs.steps.Replay.{IsReplay}
use Rattle.outbox.specs.declared.adoption.Replayed.{Replayed}
use Rattle.outbox.specs.Layout.{ServiceLayout}
use Rattle.database_layout.specs.declared.layout.Layout.TheVariants.{Service, InboxService, ServiceInbox, Inbox2Service, ServiceInbox2, UpgradedService, ServiceUpgraded, ShiftedUpgraded}
use Rattle.sqlite_tied.specs.Compute.{everything}
use Rattle.outbox.proofs.AdoptLemmas.{adopts_rows, adopts_orders, adopts_service, loads_orders, loads_service}
use Rattle.outbox.proofs.LoadLemmas.{loads_rows}
use Rattle.outbox.proofs.CountLemmas.{counts_all}
use Rattle.outbox.proofs.ReplayLemmas.{rows_tell}
use Rattle.outbox.proofs.TextLemmas.{all_rows_text, all_orders_text, service_row_text}

pub found_table : (a b c d : State) (l : ServiceLayout) (source : List ℕ) (base : ℕ) (services rows orders : List Row) (r : Replayed) → a.now.schema ≡ schema_in_layout l → HasCleanDisk d → IsTrue d.is_open
    → IsServiceReading a b → IsServiceReading b c → IsServiceReading c d → IsLive a → IsLive b → IsLive c
    → (HasCleanDisk b → Shown service_row_text [] a b services) → (HasCleanDisk c → Shown all_rows_text [] b c rows) → (HasCleanDisk d → Shown all_orders_text [] c d orders)
    → services ≡ shown_service source base ∷ [] → (replay : IsReplay base rows r)
    → ((commands : List Accepted) → ((order : ℕ) → get nat_cmp r.statuses order ≡ status_of commands order) → ShowOrders orders commands) → IsService d.now source base replay.commands
found_table a b c d l source base services rows orders r has clean still one two three live_a live_b live_c shows_a shows_b shows_c service_is replay told =
    let clean_c : HasCleanDisk c = omega (arith, three.clean, clean) in
    let clean_b : HasCleanDisk b = omega (arith, two.clean, clean_c) in
    let open_c = three.was_open clean still in
    let open_b = two.was_open clean_c open_c in
    let open_a = one.was_open clean_b open_b in
    let ab : b.now ≡ a.now = (one.same clean_b open_b l has).0 in
    let has_b : b.now.schema ≡ schema_in_layout l = ap (λ (x : Database). x.schema) ab ∙ has in
    let bc : c.now ≡ b.now = (two.same clean_c open_c l has_b).0 in
    let has_c : c.now.schema ≡ schema_in_layout l = ap (λ (x : Database). x.schema) bc ∙ has_b in
    let cd : d.now ≡ c.now = (three.same clean still l has_c).0 in
    let first : a.now.trees (first_tree l) ≡ service_row source base ∷ [] = adopts_service a b l source base has (live_a open_a).0 (subst (Shown service_row_text [] a b) service_is (shows_a clean_b)) in
    let second : IsPermutation (outbox_rows (suc base) replay.commands) (b.now.trees (suc (suc (first_tree l)))) = adopts_rows b c l (suc base) replay.commands has_b (live_b open_b).0 (subst (Shown all_rows_text [] b c) replay.rows_are (shows_b clean_c)) in
    let third : AreOrders (c.now.trees (suc (first_tree l))) replay.commands = adopts_orders c d l orders replay.commands has_c (live_c open_c).0 (shows_c clean) (told replay.commands replay.statuses) in
    record {
      layout = l;
      schema = ap (λ (x : Database). x.schema) cd ∙ has_c;
      service = ap (λ (x : Database). x.trees (first_tree l)) (cd ∙ bc ∙ ab) ∙ first;
      orders = subst (λ (x : Database). AreOrders (x.trees (suc (first_tree l))) replay.commands) (sym cd) third;
      outbox = subst (λ (x : Database). IsPermutation (outbox_rows (suc base) replay.commands) (x.trees (suc (suc (first_tree l))))) (sym (cd ∙ bc)) second;
      accepted = replay.accepted;
    }

pub found : (a b c d : State) (l : ServiceLayout) (source : List ℕ) (base : ℕ) (services rows orders : List Row) (r : Replayed) → a.now.schema ≡ schema_in_layout l → HasCleanDisk d → IsTrue d.is_open
    → IsServiceReading a b → IsServiceReading b c → IsServiceReading c d → IsLive a → IsLive b → IsLive c
    → (HasCleanDisk b → Shown service_row_text [] a b services) → (HasCleanDisk c → Shown all_rows_text [] b c rows) → (HasCleanDisk d → Shown all_orders_text [] c d orders)
    → services ≡ shown_service source base ∷ [] → IsReplay base rows r
    → ((commands : List Accepted) → ((order : ℕ) → get nat_cmp r.statuses order ≡ status_of commands order) → ShowOrders orders commands) → StandsWithRows d.now source base r.last
found a b c d l source base services rows orders r has clean still one two three live_a live_b live_c shows_a shows_b shows_c service_is replay told = record {
  commands = replay.commands;
  table = found_table a b c d l source base services rows orders r has clean still one two three live_a live_b live_c shows_a shows_b shows_c service_is replay told;
  count = replay.last;
}

pub found_counts : (a b c d : State) (l : ServiceLayout) (source : List ℕ) (base : ℕ) (services rows orders : List Row) (r : Replayed) → a.now.schema ≡ schema_in_layout l → HasCleanDisk d → IsTrue d.is_open
    → IsServiceReading a b → IsServiceReading b c → IsServiceReading c d → IsLive a → IsLive b → IsLive c
    → (HasCleanDisk b → Shown service_row_text [] a b services) → (HasCleanDisk c → Shown all_rows_text [] b c rows) → (HasCleanDisk d → Shown all_orders_text [] c d orders)
    → services ≡ shown_service source base ∷ [] → IsReplay base rows r
    → ((commands : List Accepted) → ((order : ℕ) → get nat_cmp r.statuses order ≡ status_of commands order) → ShowOrders orders commands) → CountsOrders d.now source base r.orders
found_counts a b c d l source base services rows orders r has clean still one two three live_a live_b live_c shows_a shows_b shows_c service_is replay told = counts_all d.now source base r.orders replay.commands (found_table a b c d l source base services rows orders r has clean still one two three live_a live_b live_c shows_a shows_b shows_c service_is replay told) replay.orders

-- ---- readings leave the database alone

pub one_leaves : (a b : State) (l : Layout) (h : HasService l) → a.now.schema ≡ whole_schema l → IsServiceReading a b → LeavesAsBefore a b → Leaves a b
one_leaves a b l h has one crash = record { clean = one.clean; same = λ clean still. (one.same clean still (l, h) has).0; crash = λ clean. crash clean (l, h) has }

pub two_leave : (a b c : State) (l : Layout) (h : HasService l) → a.now.schema ≡ whole_schema l → IsServiceReading a b → LeavesAsBefore a b → (HasCleanDisk b → IsTrue a.is_open × IsTrue b.is_open) → IsServiceReading b c → LeavesAsBefore b c → Leaves a c
two_leave a b c l h has one crash_b open_b two crash_c = record {
  clean = (let e : doubt a.is_clean ≤ doubt c.is_clean = omega (arith, one.clean, two.clean) in e);
  same = λ clean still. (two.same clean still (l, h) (has_b clean)).0 ∙ is clean;
  crash = λ clean db may. crash_b (clean_b clean) (l, h) has db (crash_c clean (l, h) (has_b clean) db may);
}
  where
    clean_b : HasCleanDisk c → HasCleanDisk b
    clean_b clean = omega (arith, two.clean, clean)

    is : HasCleanDisk c → b.now ≡ a.now
    is clean = (one.same (clean_b clean) (open_b (clean_b clean)).1 (l, h) has).0

    has_b : HasCleanDisk c → b.now.schema ≡ whole_schema l
    has_b clean = ap (λ (x : Database). x.schema) (is clean) ∙ has

pub all_leave : (a b c d : State) (l : Layout) (h : HasService l) → a.now.schema ≡ whole_schema l → IsServiceReading a b → LeavesAsBefore a b → (HasCleanDisk b → IsTrue a.is_open × IsTrue b.is_open) → IsServiceReading b c → LeavesAsBefore b c → (HasCleanDisk c → IsTrue b.is_open × IsTrue c.is_open) → IsServiceReading c d → LeavesAsBefore c d → Leaves a d
all_leave a b c d l h has one crash_b open_b two crash_c open_c three crash_d = record {
  clean = (let e : doubt a.is_clean ≤ doubt d.is_clean = omega (arith, first.clean, three.clean) in e);
  same = λ clean still. (three.same clean still (l, h) (has_c clean)).0 ∙ is clean;
  crash = λ clean db may. first.crash (clean_c clean) db (crash_d clean (l, h) (has_c clean) db may);
}
  where
    first : Leaves a c
    first = two_leave a b c l h has one crash_b open_b two crash_c

    clean_c : HasCleanDisk d → HasCleanDisk c
    clean_c clean = omega (arith, three.clean, clean)

    is : HasCleanDisk d → c.now ≡ a.now
    is clean = first.same (clean_c clean) (open_c (clean_c clean)).1

    has_c : HasCleanDisk d → c.now.schema ≡ whole_schema l
    has_c clean = ap (λ (x : Database). x.schema) (is clean) ∙ has

-- ---- a database that is no service's

pub no_source : (a b : State) (services : List Row) → Shown service_row_text [] a b services → ((source : List ℕ) (base : ℕ) → IsAllowed source base → services ≢ shown_service source base ∷ []) → IsNoService a.now
no_source a b services shows refuses source base commands allowed box = refuses source base allowed (loads_service a b box.layout source base services box.schema box.service shows)

pub no_other : (a b : State) (services : List Row) (source : List ℕ) (base : ℕ) → Shown service_row_text [] a b services → services ≡ shown_service source base ∷ [] → HasNoOther a.now source base
no_other a b services source base shows is other n commands box =
    let both : shown_service source base ∷ [] ≡ shown_service other n ∷ [] = sym is ∙ loads_service a b box.layout other n services box.schema box.service shows in
    let one : source ≡ other = cc in
    let two : base ≡ n = cc in
    (one, two)

module _ (a b c : State) (services rows : List Row) (source : List ℕ) (base : ℕ) (first : Shown service_row_text [] a b services) (is : services ≡ shown_service source base ∷ []) (ab : b.now ≡ a.now) (second : Shown all_rows_text [] b c rows) where
  same_base : (other : List ℕ) (n : ℕ) (commands : List Accepted) → IsService a.now other n commands → base ≡ n
  same_base other n commands box =
      let both : shown_service source base ∷ [] ≡ shown_service other n ∷ [] = sym is ∙ loads_service a b box.layout other n services box.schema box.service first in
      cc

  rows_of : (other : List ℕ) (n : ℕ) (commands : List Accepted) → IsService a.now other n commands → rows ≡ stored_rows (suc base) commands
  rows_of other n commands box =
      let here = subst (λ (d : Database). IsService d other n commands) (sym ab) box in
      loads_rows b c here.layout (suc n) commands rows here.schema here.outbox second ∙ ap (λ k. stored_rows (suc k) commands) (sym (same_base other n commands box))

  pub no_rows : ((commands : List Accepted) → AreAccepted base [] commands → rows ≢ stored_rows (suc base) commands) → IsNoService a.now
  no_rows refuses other n commands allowed box =
      refuses commands (subst (λ k. AreAccepted k [] commands) (sym (same_base other n commands box)) box.accepted) (rows_of other n commands box)

  pub no_orders : (d : State) (orders : List Row) (r : Replayed) → c.now ≡ b.now → Shown all_orders_text [] c d orders → IsReplay base rows r
      → ((commands : List Accepted) → ((order : ℕ) → get nat_cmp r.statuses order ≡ status_of commands order) → ¬ ShowOrders orders commands) → IsNoService a.now
  no_orders d orders r bc third replay refuses other n commands allowed box =
      let here = subst (λ (x : Database). IsService x other n commands) (sym (bc ∙ ab)) box in
      let same : replay.commands ≡ commands = rows_tell (suc base) replay.commands commands (sym replay.rows_are ∙ rows_of other n commands box) in
      refuses commands (λ order. replay.statuses order ∙ ap (λ l. status_of l order) same) (loads_orders c d here.layout orders commands here.schema here.orders third)

pub not_both : (b : Bool) → b ≡ true → b ≡ false → ⊥
not_both b holds fails = absurd (let e : ◌≡◌ {A = Bool} true false = sym holds ∙ fails in cc)

-- the schema of a service lacks none of its tables
pub all_named : (l : ServiceLayout) → lacks_name (schema_in_layout l) ≡ false
unfolding everything
all_named (Service, h) = refl
all_named (InboxService, h) = refl
all_named (ServiceInbox, h) = refl
all_named (Inbox2Service, h) = refl
all_named (ServiceInbox2, h) = refl
all_named (UpgradedService, h) = refl
all_named (ServiceUpgraded, h) = refl
all_named (ShiftedUpgraded, h) = refl
all_named (_, h) = absurd h

pub has_all : (l : ServiceLayout) → has_name (schema_in_layout l) ≡ true
unfolding everything
has_all (Service, h) = refl
has_all (InboxService, h) = refl
has_all (ServiceInbox, h) = refl
has_all (Inbox2Service, h) = refl
has_all (ServiceInbox2, h) = refl
has_all (UpgradedService, h) = refl
has_all (ServiceUpgraded, h) = refl
has_all (ShiftedUpgraded, h) = refl
has_all (_, h) = absurd h
