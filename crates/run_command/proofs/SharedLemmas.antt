-- What is left where the workers of a run have ended.
use Rattle.std.proofs.Common.{◌≡◌, ◌≤◌, ℕ, List, ◌++◌, length, sym, ap, subst, ◌∙◌, append_assoc, Result, Ok, Err, IfOk, IsTrue}
use Rattle.sqlite.specs.Held.{Held}
use Rattle.sqlite.specs.State.{State}
use Rattle.atomic_table.specs.Seated.{TableId}
use Rattle.attributes.specs.Event.{EventValue}
use Rattle.inbox_table.specs.Calls.{KeptTable}
use Rattle.site.specs.declared.call.Call.{Call}
use Rattle.turn_lock.specs.declared.machine.Entry.{Entry}
use Rattle.site_lock.specs.Pass.{Closes, IsFirstPass, IsHistory, IsSamePass, IsSplitOff, Meets, ShownPass, Splits, leave, leaves}
use Rattle.feeds.specs.Serve.{ServesJobs}
use Rattle.feeds.specs.declared.report.Report.{Report}
use Rattle.feeds.specs.declared.serving.ServeFault.{ServeFault}
use Rattle.feeds.specs.declared.serving.Served.{Served}
use Rattle.views.specs.declared.query.Query.{Query}
use Rattle.keeper.specs.Flush.{Flushes, Flushing}
use Rattle.keeper.specs.Keep.{Grows, HasFirst, KeepsUp}
use Rattle.keeper.specs.Law.{FirstArrivalsStay}
use Rattle.keeper.proofs.LawLemmas.{leave_grows}
use Rattle.run_command.specs.Outcome.{AreReports}
use Rattle.run_command.specs.Shared.{IsClosed}
use Rattle.run_command.proofs.FedLemmas.{IsFound, each_pulled, each_told, legal_front}

pub first_leaves : (p : ShownPass) (t : TableId) (A : List EventValue) → IsFirstPass p t A → leaves p ≡ A
first_leaves p t A f = ap (λ (s : List (Entry Call)). leave p.opening s) f.seen ∙ f.opening

pub split_leaves : (p q : ShownPass) → IsSplitOff p q → leaves q ≡ leaves p
split_leaves p q s = ap (λ (z : List EventValue). leave z q.seen) s.opening ∙ ap (λ (z : List (Entry Call)). leave p.opening z) s.seen

all_told : (lets shuts heard : ℕ → ℕ → Type 0) → IsFound → (p q : ShownPass) (later : List (Entry Call)) (feeds : List (List ℕ)) (peers : List (List EventValue)) (asks : List (List Query)) (served : Result Served ServeFault) (held more : List EventValue)
    → q.opening ≡ held → IsHistory q.opening q.seen → leave q.opening (q.seen ++ later) ≡ held ++ more → IfOk served (λ s. ServesJobs lets shuts heard p q feeds peers asks s) → IfOk served (λ s. AreReports held more feeds peers s.reports.items)
all_told lets shuts heard is_found p q later feeds peers asks (Ok s) held more opening legal grew h =
    subst (λ (z : List EventValue). AreReports z more feeds peers s.reports.items) opening
    (subst (λ (rs : List Report). AreReports q.opening more feeds peers rs) (sym h.reports)
    (let is : leave q.opening (q.seen ++ later) ≡ q.opening ++ more = grew ∙ ap (λ (z : List EventValue). z ++ more) (sym opening) in
    each_told is_found p q later legal more is lets shuts heard 0 feeds peers h.fed h.pulled h.each_feed
    (each_pulled is_found p q later legal more is lets shuts heard (length feeds) peers h.pulled h.each_peer)))
all_told lets shuts heard is_found p q later feeds peers asks (Err e) held more opening legal grew h = tt

module _ {S : Type 0} (lets shuts heard : ℕ → ℕ → Type 0) (state : Held S → State) (stay : FirstArrivalsStay) (is_found : IsFound) (k : KeptTable S) (A0 A : List EventValue) (feeds : List (List ℕ)) (peers : List (List EventValue)) (asks : List (List Query))
    (t : TableId) (p0 p1 p2 p3 own : ShownPass) (f g : Flushing S) (served : Result Served ServeFault)
    (first : IsFirstPass p0 t A0) (splits : Splits p0 p1) (off : IsSplitOff p0 own) (begun : f.keeper ≡ k) (mine : f.pass ≡ own) (flushes : Flushes state f g)
    (same : IsSamePass p1 p2) (serves : IfOk served (λ s. ServesJobs lets shuts heard p1 p2 feeds peers asks s)) (keeps : KeepsUp (state g.keeper.conn) g.keeper.rows (leaves g.pass))
    (meets : Meets p2 g.pass p3) (closes : Closes p3 A) where
  opening : p3.opening ≡ A0
  opening = meets.same.opening ∙ (same.opening ∙ (splits.same.opening ∙ first.opening))

  own_opening : g.pass.opening ≡ A0
  own_opening = flushes.same.opening ∙ (ap (λ (p : ShownPass). p.opening) mine ∙ (off.opening ∙ first.opening))

  of_own : A ≡ leave g.pass.opening (g.pass.seen ++ (meets.all_others.0 ++ closes.others))
  of_own = closes.leaves ∙ (ap (λ (z : List EventValue). leave z (p3.seen ++ closes.others)) (opening ∙ sym own_opening)
      ∙ ap (leave g.pass.opening) (ap (λ (z : List (Entry Call)). z ++ closes.others) meets.all_others.1 ∙ append_assoc g.pass.seen meets.all_others.0 closes.others))

  of_workers : A ≡ leave p2.opening (p2.seen ++ (meets.all_own.0 ++ closes.others))
  of_workers = closes.leaves ∙ (ap (λ (z : List EventValue). leave z (p3.seen ++ closes.others)) meets.same.opening
      ∙ ap (leave p2.opening) (ap (λ (z : List (Entry Call)). z ++ closes.others) meets.all_own.1 ∙ append_assoc p2.seen meets.all_own.0 closes.others))

  still : KeepsUp (state g.keeper.conn) g.keeper.rows A
  still clean is_open = subst (λ (z : List EventValue). HasFirst (state g.keeper.conn).now g.keeper.rows z) (sym of_own)
      (stay (state g.keeper.conn).now g.keeper.rows g.pass.opening g.pass.seen (meets.all_others.0 ++ closes.others) (keeps clean is_open))

  history : p3.seen ++ closes.others ≡ p2.seen ++ (meets.all_own.0 ++ closes.others)
  history = ap (λ (z : List (Entry Call)). z ++ closes.others) meets.all_own.1 ∙ append_assoc p2.seen meets.all_own.0 closes.others

  -- what the workers' pass has seen is the beginning of a history
  legal : IsHistory p2.opening p2.seen
  legal = legal_front p2.opening p2.seen (meets.all_own.0 ++ closes.others)
      (subst (λ (z : List EventValue). IsHistory z (p2.seen ++ (meets.all_own.0 ++ closes.others))) meets.same.opening
      (subst (λ (z : List (Entry Call)). IsHistory p3.opening z) history closes.legal))

  pub closed : IsClosed state k A0 feeds peers g.keeper A served g.fault
  closed = let grows = leave_grows p3.opening (p3.seen ++ closes.others) in
      let grew : A ≡ A0 ++ grows.0 = closes.leaves ∙ (grows.1 ∙ ap (λ (z : List EventValue). z ++ grows.0) opening) in record {
        first = still;
        mark = subst (λ (z : KeptTable S). z.rows ≤ g.keeper.rows) begun flushes.mark;
        grows = subst (λ (z : KeptTable S). Grows (state z.conn) (state g.keeper.conn)) begun flushes.list;
        stays_open = λ clean none is_open. flushes.stays_open clean none (subst (λ (z : KeptTable S). IsTrue (state z.conn).is_open) (sym begun) is_open);
        more = grows.0;
        grew = grew;
        reports = all_told lets shuts heard is_found p1 p2 (meets.all_own.0 ++ closes.others) feeds peers asks served A0 grows.0 (sym meets.same.opening ∙ opening) legal (sym of_workers ∙ grew) serves;
      }
