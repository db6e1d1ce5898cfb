-- What a run whose workers have ended comes to.
use Rattle.std.proofs.Common.{◌≡◌, ◌+◌, ◌-◌, ◌≤◌, ℕ, List, [], ◌∷◌, ◌++◌, refl, sym, ap, subst, ◌∙◌, append-nil, arith, length, take, slice_get, true, false, Option, None, Some, Result, Ok, Err, IfErr, IfOk, IsOk, IsTrue, OnOk, zero, suc, inl, inr}
use Rattle.std.specs.List.{AllByRecursion}
use Rattle.std.specs.Option.{option_or}
use Rattle.std.specs.Prelude.{IsSome}
use Rattle.std.proofs.Math.Seq.{take-append-add, take-length}
use Rattle.sqlite_trees.specs.Tree.{Trees}
use Rattle.sqlite.specs.Effect.{Database}
use Rattle.sqlite.specs.Held.{Held}
use Rattle.sqlite.specs.State.{State, HasCleanDisk, Survives}
use Rattle.sqlite.proofs.StateLemmas.{survives_weaker}
use Rattle.attributes.specs.Event.{EventValue}
use Rattle.databases.specs.Fault.{of_table}
use Rattle.databases.specs.declared.fault.CommandFault.TheVariants as command
use Rattle.feeds.specs.declared.report.WorkerEnd.{WorkerEnd}
use Rattle.feeds.specs.declared.report.WorkerEnd.TheVariants.{BadInput, Done, GateShut, OutOfMemory}
use Rattle.feeds.specs.declared.report.Report.{Report}
use Rattle.feeds.specs.declared.serving.ServeFault.{ServeFault}
use Rattle.feeds.specs.declared.serving.ServeFault.TheVariants as serve
use Rattle.feeds.specs.declared.serving.Served.{Served}
use Rattle.inbox_table.specs.Calls.{IsSettled, KeptTable}
use Rattle.inbox_table.specs.Rows.{IsInbox}
use Rattle.inbox_table.specs.declared.fault.TableFault.{TableFault}
use Rattle.inbox_table.specs.declared.fault.TableFault.TheVariants as table
use Rattle.keeper.specs.Keep.{Grows, HasAll, HasFirst, KeepsUp, MayGrow}
use Rattle.keeper.specs.steps.Flushes.{grows_none, grows_on, survives_on}
use Rattle.keeper.specs.declared.fault.KeepFault.{KeepFault}
use Rattle.keeper.specs.declared.fault.KeepFault.TheVariants as keep
use Rattle.run_command.specs.Ending.{KeepsRest, workers_of}
use Rattle.run_command.specs.Fault.{IsRunFault, of_end, of_keep, of_serve}
use Rattle.run_command.specs.Outcome.{AreReports, HasFrom, HasRun, IsOutcome, MayRun, RunsTo, TellsRun, fault_of_run, keeping_fault, reports_if_served}
use Rattle.run_command.specs.Peer.{ArePulled}
use Rattle.run_command.specs.Run.{IsFeedFault, IsRun, IsRunText, SaysRun}
use Rattle.run_command.specs.Shared.{IsClosed}
use Rattle.run_command.specs.Tally.{first_fault, read_in, refused_in}
use Rattle.run_command.specs.Through.{DoneThrough, ServesThrough}
use Rattle.run_command.specs.declared.fault.RunFault.{RunFault}
use Rattle.run_command.specs.declared.fault.RunFault.TheVariants as run
use Rattle.views.specs.declared.query.Query.{Query}
use Rattle.inbox_table.proofs.UpgradeLemmas.{any_named}
use Rattle.databases.specs.Held.{Holds, MayHold}
use Rattle.run_command.proofs.ToldLemmas.{AreFed, all_pulled, are_fed, blamed, no_first, told}

-- the text of reports without a fault
run_says : (rs : List Report) (n : ℕ) (A : List EventValue) (bs : List (List ℕ)) (text : List ℕ) → n ≡ length bs → AreFed A bs rs → first_fault 0 n rs ≡ None
    → IsRunText (read_in (take n rs)) (refused_in (take n rs)) A text → SaysRun bs A text
run_says rs n A bs text is fed none prints =
    let t = told A bs rs 0 fed (subst (λ k. first_fault 0 k rs ≡ None) is none) in
    let all : IsRunText (read_in (take (length bs) rs)) (refused_in (take (length bs) rs)) A text = subst (λ k. IsRunText (read_in (take k rs)) (refused_in (take k rs)) A text) is prints in
    record {
      lists = t.lists;
      read = t.read;
      fed = t.fed;
      refused = refused_in (take (length bs) rs);
      counted = t.none;
      prints = subst (λ k. IsRunText k (refused_in (take (length bs) rs)) A text) t.all all;
    }

kept_blames : (bs : List (List ℕ)) (fault : KeepFault) → IsFeedFault bs (of_keep fault) × IsRunFault (of_keep fault)
kept_blames bs keep.OutOfMemory = (tt, tt)
kept_blames bs keep.Store = (tt, tt)
kept_blames bs keep.Foreign = (tt, tt)

served_blames : (bs : List (List ℕ)) (fault : ServeFault) → IsFeedFault bs (of_serve fault) × IsRunFault (of_serve fault)
served_blames bs serve.OutOfMemory = (tt, tt)
served_blames bs serve.NoThread = (tt, tt)

feed_blames : (A : List EventValue) (bs : List (List ℕ)) (rs : List Report) (why : RunFault) → AreFed A bs rs → first_fault 0 (length bs) rs ≡ Some why → IsFeedFault bs why
feed_blames A bs rs (run.Database why) fed is = tt
feed_blames A bs rs run.NoThread fed is = tt
feed_blames A bs rs (run.Feed i f) fed is =
    let b = blamed A bs rs 0 i f fed is in
    let at : i ≡ b.k = omega (arith, b.at) in
    (b.b, subst (λ k. slice_get bs k ≡ Some b.b) (sym at) b.there, b.refuses)

-- a worker's fault is one of a run
end_fault : (place n : ℕ) (e : WorkerEnd) (why : RunFault) → of_end place n e ≡ Some why → IsRunFault why
end_fault place n Done why is = absurd (cc)
end_fault place n OutOfMemory why is = let e : run.Database command.OutOfMemory ≡ why = cc in subst IsRunFault e tt
end_fault place n GateShut why is = let e : run.Database command.OutOfMemory ≡ why = cc in subst IsRunFault e tt
end_fault place zero (BadInput f) why is = let e : run.Database command.OutOfMemory ≡ why = cc in subst IsRunFault e tt
end_fault place (suc n) (BadInput f) why is = let e : run.Feed place f ≡ why = cc in subst IsRunFault e tt

one_of : (o rest : Option RunFault) (why : RunFault) → ((w : RunFault) → o ≡ Some w → IsRunFault w) → (rest ≡ Some why → IsRunFault why) → option_or o rest ≡ Some why → IsRunFault why
one_of None rest why one others is = others is
one_of (Some w) rest why one others is = let e : w ≡ why = cc in subst IsRunFault e (one w refl)

first_is : (place n : ℕ) (rs : List Report) (why : RunFault) → first_fault place n rs ≡ Some why → IsRunFault why
first_is place n [] why is = absurd (cc)
first_is place n (r ∷ rs) why is = one_of (of_end place n r.ended) (first_fault (place + 1) (n - 1) rs) why (end_fault place n r.ended) (first_is (place + 1) (n - 1) rs why) is

-- what is blamed where there is no text
blames_kept : (n : ℕ) (bs : List (List ℕ)) (rs : List Report) (A : List EventValue) (stopped : Option KeepFault) (why : RunFault) → TellsRun n rs A (keeping_fault stopped) (Err why) → IsFeedFault bs why × IsRunFault why
blames_kept n bs rs A (Some fault) why tells =
    let e : of_keep fault ≡ why = cc in let k = kept_blames bs fault in (subst (IsFeedFault bs) e k.0, subst IsRunFault e k.1)
blames_kept n bs rs A None why tells = (subst (IsFeedFault bs) (sym tells) tt, subst IsRunFault (sym tells) tt)

blames_first : (o : Option RunFault) (n : ℕ) (bs : List (List ℕ)) (rs : List Report) (A B : List EventValue) (stopped : Option KeepFault) (why : RunFault) → n ≡ length bs → AreFed B bs rs → first_fault 0 n rs ≡ o
    → TellsRun n rs A (option_or o (keeping_fault stopped)) (Err why) → IsFeedFault bs why × IsRunFault why
blames_first None n bs rs A B stopped why is fed first tells = blames_kept n bs rs A stopped why tells
blames_first (Some w) n bs rs A B stopped why is fed first tells =
    let e : w ≡ why = cc in
    let at : first_fault 0 n rs ≡ Some why = first ∙ ap Some e in
    (feed_blames B bs rs why fed (subst (λ k. first_fault 0 k rs ≡ Some why) is at), first_is 0 n rs why at)

pub blames : (served : Result Served ServeFault) (n : ℕ) (bs : List (List ℕ)) (ps : List (List EventValue)) (A held more : List EventValue) (stopped : Option KeepFault) (why : RunFault) → n ≡ length bs
    → IfOk served (λ s. AreReports held more bs ps s.reports.items) → TellsRun n (reports_if_served (workers_of served)) A (fault_of_run n (workers_of served) stopped) (Err why) → IsFeedFault bs why × IsRunFault why
blames (Ok s) n bs ps A held more stopped why is reports tells =
    blames_first (first_fault 0 n s.reports.items) n bs s.reports.items A (held ++ more) stopped why is (are_fed held more bs ps s.reports.items reports) refl tells
blames (Err fault) n bs ps A held more stopped why is reports tells =
    let e : of_serve fault ≡ why = cc in let k = served_blames bs fault in (subst (IsFeedFault bs) e k.0, subst IsRunFault e k.1)

-- reports without a fault are of workers that were done
end_done : (place n : ℕ) (e : WorkerEnd) → of_end place n e ≡ None → e ≡ Done
end_done place n Done is = refl
end_done place n OutOfMemory is = absurd (cc)
end_done place n GateShut is = absurd (cc)
end_done place zero (BadInput f) is = absurd (cc)
end_done place (suc n) (BadInput f) is = absurd (cc)

all_done : (place n : ℕ) (rs : List Report) → first_fault place n rs ≡ None → AllByRecursion (λ (r : Report). r.ended ≡ Done) rs
all_done place n [] is = tt
all_done place n (r ∷ rs) is = let none = no_first (of_end place n r.ended) (first_fault (place + 1) (n - 1) rs) is in (end_done place n r.ended none.0, all_done (place + 1) (n - 1) rs none.1)

pub either_blames : (served : Result Served ServeFault) (n : ℕ) (bs : List (List ℕ)) (ps : List (List EventValue)) (A held more : List EventValue) (stopped : Option KeepFault) (outcome : Result (List ℕ) RunFault) → n ≡ length bs
    → IfOk served (λ s. AreReports held more bs ps s.reports.items) → TellsRun n (reports_if_served (workers_of served)) A (fault_of_run n (workers_of served) stopped) outcome
    → IfErr outcome (λ why. IsFeedFault bs why × IsRunFault why)
either_blames served n bs ps A held more stopped (Ok text) is reports tells = tt
either_blames served n bs ps A held more stopped (Err why) is reports tells = blames served n bs ps A held more stopped why is reports tells

-- a run with a text
pub record Finished (bs : List (List ℕ)) (ps : List (List EventValue)) (held more A : List EventValue) (served : Result Served ServeFault) (stopped : Option KeepFault) (text : List ℕ) : Type 0 where
  pub says : SaysRun bs A text
  pub pulled : ArePulled held more ps
  pub ok : IsOk served
  pub unstopped : stopped ≡ None

no_fault : (n : ℕ) (rs : List Report) (A : List EventValue) (o : Option RunFault) (text : List ℕ) → TellsRun n rs A o (Ok text) → (o ≡ None) × IsRunText (read_in (take n rs)) (refused_in (take n rs)) A text
no_fault n rs A None text tells = (refl, tells)
no_fault n rs A (Some fault) text tells = absurd (cc)

not_stopped : (stopped : Option KeepFault) → keeping_fault stopped ≡ None → stopped ≡ None
not_stopped None h = refl
not_stopped (Some fault) h = absurd (cc)

pub finished : (served : Result Served ServeFault) (n : ℕ) (bs : List (List ℕ)) (ps : List (List EventValue)) (A held more : List EventValue) (stopped : Option KeepFault) (text : List ℕ) → n ≡ length bs → A ≡ held ++ more
    → IfOk served (λ s. AreReports held more bs ps s.reports.items) → TellsRun n (reports_if_served (workers_of served)) A (fault_of_run n (workers_of served) stopped) (Ok text)
    → Finished bs ps held more A served stopped text
finished (Ok s) n bs ps A held more stopped text is grew reports tells =
    let rs : List Report = s.reports.items in
    let q = no_fault n rs A (option_or (first_fault 0 n rs) (keeping_fault stopped)) text tells in
    let none = no_first (first_fault 0 n rs) (keeping_fault stopped) q.0 in
    record {
      says = run_says rs n A bs text is (subst (λ (z : List EventValue). AreFed z bs rs) (sym grew) (are_fed held more bs ps rs reports)) none.0 q.1;
      pulled = all_pulled held more bs ps rs 0 reports (subst (λ k. first_fault 0 k rs ≡ None) is none.0);
      ok = refl;
      unstopped = not_stopped stopped none.1;
    }
finished (Err fault) n bs ps A held more stopped text is grew reports tells = absurd (cc)

-- so those of a run with a text were
done_through : (lets shuts heard : ℕ → ℕ → Type 0) (bs : List (List ℕ)) (ps : List (List EventValue)) (asks : List (List Query)) (served : Result Served ServeFault) (n : ℕ) (A : List EventValue) (stopped : Option KeepFault) (text : List ℕ)
    → IfOk served (ServesThrough lets shuts heard bs ps asks) → TellsRun n (reports_if_served (workers_of served)) A (fault_of_run n (workers_of served) stopped) (Ok text) → DoneThrough lets shuts heard bs ps asks
done_through lets shuts heard bs ps asks (Ok s) n A stopped text through tells =
    let q = no_fault n s.reports.items A (option_or (first_fault 0 n s.reports.items) (keeping_fault stopped)) text tells in
    let none = no_first (first_fault 0 n s.reports.items) (keeping_fault stopped) q.0 in
    (s, through, all_done 0 n s.reports.items none.0)
done_through lets shuts heard bs ps asks (Err fault) n A stopped text through tells = absurd (cc)

pub gated_run : (lets shuts heard : ℕ → ℕ → Type 0) (bs : List (List ℕ)) (ps : List (List EventValue)) (asks : List (List Query)) (served : Result Served ServeFault) (n : ℕ) (A : List EventValue) (stopped : Option KeepFault) (outcome : Result (List ℕ) RunFault)
    → IfOk served (ServesThrough lets shuts heard bs ps asks) → TellsRun n (reports_if_served (workers_of served)) A (fault_of_run n (workers_of served) stopped) outcome → OnOk outcome (DoneThrough lets shuts heard bs ps asks)
gated_run lets shuts heard bs ps asks served n A stopped (Ok text) through tells = done_through lets shuts heard bs ps asks served n A stopped text through tells
gated_run lets shuts heard bs ps asks served n A stopped (Err why) through tells = tt

ok_workers : (served : Result Served ServeFault) → IsOk (workers_of served) → IsOk served
ok_workers (Ok s) h = refl
ok_workers (Err fault) h = absurd (cc)

told_workers : (served : Result Served ServeFault) (P : List Report → Type 0) → IfOk served (λ s. P s.reports.items) → IfOk (workers_of served) P
told_workers (Ok s) P h = h
told_workers (Err fault) P h = tt

-- the first of what was held and came, at least what was held
pub has_from : (db : Database) (rows : ℕ) (A held more : List EventValue) → A ≡ held ++ more → length held ≤ rows → HasFirst db rows A → HasFrom db held more
has_from db rows A held more grew low h =
    let e : rows ≡ length held + (rows - length held) = omega (arith, low) in
    (rows - length held, subst (λ (z : List EventValue). IsInbox db z) (ap (take rows) grew ∙ (ap (λ k. take k (held ++ more)) e ∙ take-append-add held more (rows - length held))) h.table)

-- what is left after all of the rest was kept
all_first : (s : State) (rows : ℕ) (A : List EventValue) → HasAll s rows A → HasFirst s.now rows A
all_first s rows A h = record {
  some = (let c = h.count in omega (arith, c));
  table = subst (λ (z : List EventValue). IsInbox s.now z) (sym (ap (λ k. take k A) h.count ∙ take-length A)) h.table;
}

module _ {S : Type 0} (state : Held S → State) (bs : List (List ℕ)) (ps : List (List EventValue)) (held A : List EventValue) (k0 k l : KeptTable S) (served : Result Served ServeFault) (before stopped : Option KeepFault) (n : ℕ) (outcome : Result (List ℕ) RunFault)
    (closed : IsClosed state k0 held bs ps k A served before) (rest : KeepsRest state k l A served before stopped) (count : HasCleanDisk (state k0.conn) → k0.rows ≡ length held) (is : n ≡ length bs)
    (tells : TellsRun n (reports_if_served (workers_of served)) A (fault_of_run n (workers_of served) stopped) outcome) where
  pub was_clean : HasCleanDisk (state l.conn) → HasCleanDisk (state k0.conn)
  was_clean clean = closed.grows.was_clean (rest.grows.was_clean clean)

  -- what a crash leaves: where keeping stopped, nothing was done after it
  pub grown : Grows (state k0.conn) (state l.conn)
  grown = go before refl
    where
      go : (b : Option KeepFault) → before ≡ b → Grows (state k0.conn) (state l.conn)
      go None e = grows_on (state k0.conn) (state k.conn) (state l.conn) closed.grows rest.grows (λ clean is_open. closed.stays_open clean e is_open)
      go (Some fault) e = subst (λ (z : KeptTable S). Grows (state k0.conn) (state z.conn)) (sym (rest.idle (subst (λ (z : Option KeepFault). IsSome z) (sym e) refl))) closed.grows

  pulls : IfOk outcome (λ _. ArePulled held closed.more ps)
  pulls = go outcome tells
    where
      go : (o : Result (List ℕ) RunFault) → TellsRun n (reports_if_served (workers_of served)) A (fault_of_run n (workers_of served) stopped) o → IfOk o (λ _. ArePulled held closed.more ps)
      go (Ok text) t = (finished served n bs ps A held closed.more stopped text is closed.grew closed.reports t).pulled
      go (Err why) t = tt

  pub has_run : HasRun bs ps held (state l.conn) stopped outcome
  has_run = let W : Result (List Report) ServeFault = workers_of served in record {
    more = closed.more;
    workers = W;
    reports = told_workers served (AreReports held closed.more bs ps) closed.reports;
    told = subst (λ m. TellsRun m (reports_if_served W) (held ++ closed.more) (fault_of_run m W stopped) outcome) is
        (subst (λ (z : List EventValue). TellsRun n (reports_if_served W) z (fault_of_run n W stopped) outcome) closed.grew tells);
    pulled = pulls;
    kept = λ clean is_open.
        let low : length held ≤ l.rows = (let a = count (was_clean clean) in let b = closed.mark in let c = rest.mark clean is_open in omega (arith, a, b, c)) in
        has_from (state l.conn).now l.rows A held closed.more closed.grew low (rest.first clean is_open);
    all = λ clean ok none. subst (λ (z : List EventValue). IsInbox (state l.conn).now z) closed.grew (rest.all clean (ok_workers served ok) none);
    settled = λ clean ok none. rest.settled clean (ok_workers served ok) none;
  }

  pub ran : HasCleanDisk (state l.conn) → IfOk outcome (IsRun bs ps held (state l.conn).now)
  ran clean = go outcome tells
    where
      go : (o : Result (List ℕ) RunFault) → TellsRun n (reports_if_served (workers_of served)) A (fault_of_run n (workers_of served) stopped) o → IfOk o (IsRun bs ps held (state l.conn).now)
      go (Ok text) t = let f = finished served n bs ps A held closed.more stopped text is closed.grew closed.reports t in record {
        arrivals = A;
        kept = rest.all clean f.ok f.unstopped;
        more = closed.more;
        first = closed.grew;
        pulled = f.pulled;
        said = f.says;
      }
      go (Err why) t = tt

  pub says : IfOk outcome (λ text. (arrivals : List EventValue) × SaysRun bs arrivals text)
  says = go outcome tells
    where
      go : (o : Result (List ℕ) RunFault) → TellsRun n (reports_if_served (workers_of served)) A (fault_of_run n (workers_of served) stopped) o → IfOk o (λ text. (arrivals : List EventValue) × SaysRun bs arrivals text)
      go (Ok text) t = (A, (finished served n bs ps A held closed.more stopped text is closed.grew closed.reports t).says)
      go (Err why) t = tt

  pub settles : HasCleanDisk (state l.conn) → OnOk outcome (IsSettled (state l.conn))
  settles clean = go outcome tells
    where
      go : (o : Result (List ℕ) RunFault) → TellsRun n (reports_if_served (workers_of served)) A (fault_of_run n (workers_of served) stopped) o → OnOk o (IsSettled (state l.conn))
      go (Ok text) t = let f = finished served n bs ps A held closed.more stopped text is closed.grew closed.reports t in rest.settled clean f.ok f.unstopped
      go (Err why) t = tt

  pub blame : IfErr outcome (λ why. IsFeedFault bs why × IsRunFault why)
  blame = either_blames served n bs ps A held closed.more stopped outcome is closed.reports tells

-- what a run leaves tells its outcome
pub is_outcome : (bs : List (List ℕ)) (ps : List (List EventValue)) (old new : State) (stopped : Option KeepFault) (outcome : Result (List ℕ) RunFault) → RunsTo bs ps old new stopped outcome → IsOutcome bs ps outcome
is_outcome bs ps old new stopped outcome (inl u) = inl (u.why, u.told)
is_outcome bs ps old new stopped outcome (inr h) = let r = h.2 in inr (record {
  held = h.0;
  more = r.more;
  workers = r.workers;
  stopped = stopped;
  reports = r.reports;
  told = r.told;
  pulled = r.pulled;
})

not_some : (stopped : Option KeepFault) → stopped ≡ None → IsSome stopped → ⊥
not_some stopped none some = let bad : false ≡ true = subst IsSome none some in cc

-- the rest, where nothing is done for it
module _ {S : Type 0} (state : Held S → State) (k l : KeptTable S) (A : List EventValue) (served : Result Served ServeFault) where
  pub rest_idle : (stopped : Option KeepFault) → KeepsUp (state k.conn) k.rows A → (IsOk served → stopped ≡ None → ⊥) → KeepsRest state k k A served stopped stopped
  rest_idle stopped first never = record {
    first = first;
    mark = λ clean is_open. omega arith;
    told = λ fault is. is;
    all = λ clean ok none. absurd (never ok none);
    settled = λ clean ok none. absurd (never ok none);
    grows = grows_none (state k.conn);
    idle = λ some. refl;
  }

  -- where it is kept
  pub rest_kept : (stopped : Option KeepFault) → stopped ≡ None → KeepsUp (state k.conn) k.rows A → Grows (state k.conn) (state l.conn) → (HasCleanDisk (state l.conn) → HasAll (state l.conn) l.rows A)
      → (HasCleanDisk (state l.conn) → IsSettled (state l.conn)) → KeepsRest state k l A served stopped None
  rest_kept stopped none first list all settled = record {
    first = λ clean is_open. all_first (state l.conn) l.rows A (all clean);
    mark = λ clean is_open. let h = all clean in let f = first (list.was_clean clean) (list.was_open clean is_open) in (let a = h.count in let b = f.some in omega (arith, a, b));
    told = λ fault is. absurd (cc);
    all = λ clean ok last. (all clean).table;
    settled = λ clean ok last. settled clean;
    grows = list;
    idle = λ some. absurd (not_some stopped none some);
  }

  -- where it is refused
  pub rest_refused : (stopped : Option KeepFault) (why : KeepFault) → stopped ≡ None → KeepsUp (state k.conn) k.rows A → Grows (state k.conn) (state l.conn) → l.rows ≡ k.rows
      → (HasCleanDisk (state l.conn) → IsTrue (state l.conn).is_open → (state l.conn).now ≡ (state k.conn).now) → KeepsRest state k l A served stopped (Some why)
  rest_refused stopped why none first list mark same = record {
    first = λ clean is_open.
        let f : HasFirst (state k.conn).now k.rows A = first (list.was_clean clean) (list.was_open clean is_open) in
        subst (λ n. HasFirst (state l.conn).now n A) (sym mark) (subst (λ d. HasFirst d k.rows A) (sym (same clean is_open)) f);
    mark = λ clean is_open. omega (arith, mark);
    told = λ fault is. absurd (cc);
    all = λ clean ok last. absurd (cc);
    settled = λ clean ok last. absurd (cc);
    grows = list;
    idle = λ some. absurd (not_some stopped none some);
  }

-- what is told at each end
pub tell_served : (served : Result Served ServeFault) (fault : ServeFault) (n : ℕ) (A : List EventValue) (stopped : Option KeepFault) → served ≡ Err fault
    → TellsRun n (reports_if_served (workers_of served)) A (fault_of_run n (workers_of served) stopped) (Err (of_serve fault))
tell_served served fault n A stopped is = subst (λ (z : Result Served ServeFault). TellsRun n (reports_if_served (workers_of z)) A (fault_of_run n (workers_of z) stopped) (Err (of_serve fault))) (sym is) refl

pub tell_first : (served : Result Served ServeFault) (s : Served) (why : RunFault) (n : ℕ) (A : List EventValue) (stopped : Option KeepFault) → served ≡ Ok s → first_fault 0 n s.reports.items ≡ Some why
    → TellsRun n (reports_if_served (workers_of served)) A (fault_of_run n (workers_of served) stopped) (Err why)
tell_first served s why n A stopped is first = subst (λ (z : Result Served ServeFault). TellsRun n (reports_if_served (workers_of z)) A (fault_of_run n (workers_of z) stopped) (Err why)) (sym is)
    (subst (λ (o : Option RunFault). TellsRun n s.reports.items A (option_or o (keeping_fault stopped)) (Err why)) (sym first) refl)

pub tell_kept : (served : Result Served ServeFault) (s : Served) (why : KeepFault) (n : ℕ) (A : List EventValue) (stopped : Option KeepFault) → served ≡ Ok s → first_fault 0 n s.reports.items ≡ None → stopped ≡ Some why
    → TellsRun n (reports_if_served (workers_of served)) A (fault_of_run n (workers_of served) stopped) (Err (of_keep why))
tell_kept served s why n A stopped is first stop = subst (λ (z : Result Served ServeFault). TellsRun n (reports_if_served (workers_of z)) A (fault_of_run n (workers_of z) stopped) (Err (of_keep why))) (sym is)
    (subst (λ (o : Option RunFault). TellsRun n s.reports.items A (option_or o (keeping_fault stopped)) (Err (of_keep why))) (sym first)
    (subst (λ (o : Option KeepFault). TellsRun n s.reports.items A (keeping_fault o) (Err (of_keep why))) (sym stop) refl))

text_told : (n : ℕ) (rs : List Report) (A : List EventValue) (r : Result (List ℕ) RunFault) → IfOk r (IsRunText (read_in (take n rs)) (refused_in (take n rs)) A) → IfErr r (λ why. why ≡ run.Database command.OutOfMemory) → TellsRun n rs A None r
text_told n rs A (Ok text) ok err = ok
text_told n rs A (Err why) ok err = err

pub tell_text : (served : Result Served ServeFault) (s : Served) (n : ℕ) (A : List EventValue) (stopped : Option KeepFault) (r : Result (List ℕ) RunFault) → served ≡ Ok s → first_fault 0 n s.reports.items ≡ None → stopped ≡ None
    → IfOk r (IsRunText (read_in (take n s.reports.items)) (refused_in (take n s.reports.items)) A) → IfErr r (λ why. why ≡ run.Database command.OutOfMemory)
    → TellsRun n (reports_if_served (workers_of served)) A (fault_of_run n (workers_of served) stopped) r
tell_text served s n A stopped r is first stop ok err = subst (λ (z : Result Served ServeFault). TellsRun n (reports_if_served (workers_of z)) A (fault_of_run n (workers_of z) stopped) r) (sym is)
    (subst (λ (o : Option RunFault). TellsRun n s.reports.items A (option_or o (keeping_fault stopped)) r) (sym first)
    (subst (λ (o : Option KeepFault). TellsRun n s.reports.items A (keeping_fault o) r) (sym stop) (text_told n s.reports.items A r ok err)))

-- a database with the table holds its events
pub inbox_holds : (db : Database) (held : List EventValue) → IsInbox db held → Holds db held
inbox_holds db held box = record {
  there = λ _. inl box;
  none = λ no. let e : true ≡ false = sym (any_named db held (inl box)) ∙ no in absurd (cc);
}

-- what a stop leaves: what it held, where the run wasn't begun
held_may_run : (old : Database) (trees : Trees) → MayHold old trees → MayRun old trees
held_may_run old trees may = record {
  db = may.db;
  are = may.are;
  sound = may.sound;
  held = may.events;
  was = may.was;
  more = [];
  is = subst (Holds may.db) (sym (append-nil may.events)) may.is;
}

pub unbegun_may : (old new : State) → Survives old new (MayHold old.now) → Survives old new (MayRun old.now)
unbegun_may old new = survives_weaker old new _ _ (λ clean trees. held_may_run old.now trees)

-- and more behind it, where it was
pub ran_on : (old mid new : State) (events : List EventValue) → Survives old mid (MayHold old.now) → (HasCleanDisk mid → Holds old.now events) → (HasCleanDisk mid → IsInbox mid.now events)
    → (HasCleanDisk mid → IsTrue mid.is_open) → Grows mid new → Survives old new (MayRun old.now)
ran_on old mid new events one held found opens grows = survives_on old mid new (MayRun old.now) (λ trees. IsTrue mid.is_open → MayGrow mid.now trees) (unbegun_may old mid one) grows.survives behind
  where
    behind : HasCleanDisk mid → (trees : Trees) → (IsTrue mid.is_open → MayGrow mid.now trees) → MayRun old.now trees
    behind clean trees may = let m = may (opens clean) in let all = m.list events (found clean) in record {
      db = m.db;
      are = m.are;
      sound = m.sound;
      held = events;
      was = held clean;
      more = all.0;
      is = inbox_holds m.db (events ++ all.0) all.1;
    }

-- a refusal that is told as `Foreign` is that
pub table_foreign : (fault : TableFault) → of_table fault ≡ command.Foreign → fault ≡ table.Foreign
table_foreign table.OutOfMemory is = absurd (cc)
table_foreign table.Store is = absurd (cc)
table_foreign table.Foreign is = refl
