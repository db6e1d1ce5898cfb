-- Workers of one pass: their jobs, the passes that they work with, and what came of them.
use Rattle.std.proofs.Common.{◌≡◌, ◌+◌, ◌≤◌, ℕ, true, List, [], ◌∷◌, ◌++◌, length, map, refl, sym, ap, subst, ◌∙◌, append_assoc, append-nil, arith, length-append}
use Rattle.std.specs.Prelude.{IfSome, None, Option, Some}
use Rattle.std.proofs.lemmas.List.{length-map, map-append}
use Rattle.atomic_table.specs.Seated.{TableId}
use Rattle.attributes.specs.Event.{EventValue}
use Rattle.inbox.specs.KeyOrder.{key_cmp}
use Rattle.inbox.specs.Ordered.{has}
use Rattle.inbox.specs.Sets.{set_of}
use Rattle.site.specs.Delta.{delta}
use Rattle.site.specs.Machine.{arrivals_after, handled_by}
use Rattle.site.specs.declared.call.Call.{Call}
use Rattle.turn_lock.specs.declared.machine.Entry.{Entry}
use Rattle.turn_lock.specs.History.{StartsWith, entry, made_by}
use Rattle.views.specs.declared.query.Query.{Query}
use Rattle.site_lock.specs.Pass.{IsSamePass, IsSplitOff, ShownPass, Steps, leave, leaves}
use Rattle.feeds.specs.Serve.{EachAt, HasCalls, ServesJobs, WorkerAsks, WorkerFeeds, WorkerPulls, worker_of}
use Rattle.feeds.specs.declared.asking.Asked.{Asked}
use Rattle.feeds.specs.declared.report.Report.{Report}
use Rattle.feeds.specs.declared.serving.Served.{Served}
use Rattle.feeds.specs.declared.serving.worker.Finished.{Finished}
use Rattle.feeds.specs.declared.serving.worker.Job.{Job}
use Rattle.feeds.specs.declared.serving.worker.JobEnd.{JobEnd}
use Rattle.feeds.specs.declared.serving.worker.JobEnd.TheVariants.{Answered, Reported}
use Rattle.feeds.specs.declared.serving.worker.Work.{Work}
use Rattle.feeds.specs.declared.serving.worker.Work.TheVariants as work
use Rattle.feeds.specs.steps.Serve.{AllAt, AllTold, AreAt, Each, EndsJob, IsJobAt, Performs, WorkerTells, answers_by, answers_in, outcomes, reports_by, reports_in, works_of}
use Rattle.feeds.proofs.PullLemmas.{holds_on, keeps_having}

-- one job more
pub one_more : (H : Job → Finished → Type 0) (js : List Job) (fs : List Finished) (j : Job) (f : Finished) → Each H js fs → H j f → Each H (js ++ j ∷ []) (fs ++ f ∷ [])
one_more H [] [] j f h k = (k, tt)
one_more H [] (x ∷ xs) j f h k = absurd h
one_more H (y ∷ ys) [] j f h k = absurd h
one_more H (y ∷ ys) (x ∷ xs) j f h k = (h.0, one_more H ys xs j f h.1 k)

pub at_last : (t : TableId) (js : List Job) (j : Job) → AreAt t (js ++ j ∷ []) → AreAt t js × (j.pass.table ≡ t)
at_last t [] j h = (tt, h.0)
at_last t (x ∷ xs) j h = let r = at_last t xs j h.1 in ((h.0, r.0), r.1)

pub all_at_last : (t : TableId) (fs : List Finished) (f : Finished) → AllAt t (fs ++ f ∷ []) → AllAt t fs × (f.pass.table ≡ t)
all_at_last t [] f h = (tt, h.0)
all_at_last t (x ∷ xs) f h = let r = all_at_last t xs f h.1 in ((h.0, r.0), r.1)

pub each_length : (H : Job → Finished → Type 0) (js : List Job) (fs : List Finished) → Each H js fs → length fs ≡ length js
each_length H [] [] h = refl
each_length H [] (x ∷ xs) h = absurd h
each_length H (y ∷ ys) [] h = absurd h
each_length H (y ∷ ys) (x ∷ xs) h = omega (arith, each_length H ys xs h.1)

-- two histories that begin with one another are one
none_left : (l : List (Entry Call)) → length l ≡ 0 → l ≡ []
none_left [] e = refl
none_left (x ∷ xs) e = absurd (omega (arith, e))

pub same_start : (a b : List (Entry Call)) → StartsWith a b → StartsWith b a → a ≡ b
same_start a b h k = let e = ap length h.1 in let f = ap length k.1 in let p = length-append b h.0 in let q = length-append a k.0 in
    h.1 ∙ (ap (λ (z : List (Entry Call)). b ++ z) (none_left h.0 (omega (arith, e, f, p, q))) ∙ append-nil b)

-- the last piece of work
pub last_ask : (feeds : List (List ℕ)) (peers : List (List EventValue)) (asks : List (List Query)) (q : List Query) → works_of feeds peers (asks ++ q ∷ []) ≡ works_of feeds peers asks ++ work.Ask q ∷ []
last_ask feeds peers asks q = ap (λ l. map work.Feed feeds ++ (map work.Pull peers ++ l)) (map-append work.Ask asks (q ∷ []))
    ∙ ap (λ l. map work.Feed feeds ++ l) (sym (append_assoc (map work.Pull peers) (map work.Ask asks) (work.Ask q ∷ [])))
    ∙ sym (append_assoc (map work.Feed feeds) (map work.Pull peers ++ map work.Ask asks) (work.Ask q ∷ []))

pub last_peer : (feeds : List (List ℕ)) (peers : List (List EventValue)) (A : List EventValue) → works_of feeds (peers ++ A ∷ []) [] ≡ works_of feeds peers [] ++ work.Pull A ∷ []
last_peer feeds peers A = ap (λ l. map work.Feed feeds ++ l) (append-nil (map work.Pull (peers ++ A ∷ [])) ∙ map-append work.Pull peers (A ∷ []))
    ∙ sym (append_assoc (map work.Feed feeds) (map work.Pull peers) (work.Pull A ∷ []))
    ∙ ap (λ l. (map work.Feed feeds ++ l) ++ work.Pull A ∷ []) (sym (append-nil (map work.Pull peers)))

pub last_feed : (feeds : List (List ℕ)) (b : List ℕ) → works_of (feeds ++ b ∷ []) [] [] ≡ works_of feeds [] [] ++ work.Feed b ∷ []
last_feed feeds b = append-nil (map work.Feed (feeds ++ b ∷ [])) ∙ map-append work.Feed feeds (b ∷ []) ∙ ap (λ l. l ++ work.Feed b ∷ []) (sym (append-nil (map work.Feed feeds)))

pub works_length : (feeds : List (List ℕ)) (peers : List (List EventValue)) (asks : List (List Query)) → length (works_of feeds peers asks) ≡ length feeds + length peers + length asks
works_length feeds peers asks = omega (
  arith,
  length-append (map work.Feed feeds) (map work.Pull peers ++ map work.Ask asks),
  length-append (map work.Pull peers) (map work.Ask asks),
  length-map feeds work.Feed,
  length-map peers work.Pull,
  length-map asks work.Ask,
)

-- a job more at the end
each_at_more : {A : Type 0} → {B : Type 0} → (Holds : ℕ → A → B → Type 0) (at : ℕ) (xs : List A) (ys : List B) (x : A) (y : B) → EachAt Holds at xs ys → Holds (at + length xs) x y → EachAt Holds at (xs ++ x ∷ []) (ys ++ y ∷ [])
each_at_more Holds at [] [] x y h k = (subst (λ n. Holds n x y) (omega arith) k, tt)
each_at_more Holds at [] (z ∷ zs) x y h k = absurd h
each_at_more Holds at (w ∷ ws) [] x y h k = absurd h
each_at_more Holds at (w ∷ ws) (z ∷ zs) x y h k = (h.0, each_at_more Holds (at + 1) ws zs x y h.1 (subst (λ n. Holds n x y) (omega arith) k))

pub job_of : (p r q : ShownPass) (place : ℕ) (j : Job) → j.worker ≡ place → IsSamePass p r → r.splits ≡ p.splits + place → IsSplitOff r q → j.pass ≡ q → IsJobAt p place j.work j
job_of p r q place j worker same splits off is = record {
  worker = worker;
  work = refl;
  table = ap (λ z. z.table) is ∙ off.table ∙ same.table;
  number = ap (λ z. z.number) is ∙ off.number ∙ (λ i. same.number i ++ splits i ∷ []);
  opening = ap (λ z. z.opening) is ∙ off.opening ∙ same.opening;
  unused = ap (λ z. z.mine) is ∙ off.mine;
}

pub job_more : (p : ShownPass) (all ws : List Work) (js out : List Job) (j : Job) → EachAt (IsJobAt p) 0 ws js → IsJobAt p (length ws) j.work j → all ≡ ws ++ j.work ∷ [] → out ≡ js ++ j ∷ [] → EachAt (IsJobAt p) 0 all out
job_more p all ws js out j h k more put = subst (λ z. EachAt (IsJobAt p) 0 z out) (sym more) (subst (λ z. EachAt (IsJobAt p) 0 (ws ++ j.work ∷ []) z) (sym put) (each_at_more (IsJobAt p) 0 ws js j.work j h (subst (λ n. IsJobAt p n j.work j) (omega arith) k)))

pub each_at_length : {A : Type 0} → {B : Type 0} → (Holds : ℕ → A → B → Type 0) (at : ℕ) (xs : List A) (ys : List B) → EachAt Holds at xs ys → length ys ≡ length xs
each_at_length Holds at [] [] h = refl
each_at_length Holds at [] (z ∷ zs) h = absurd h
each_at_length Holds at (w ∷ ws) [] h = absurd h
each_at_length Holds at (w ∷ ws) (z ∷ zs) h = omega (arith, each_at_length Holds (at + 1) ws zs h.1)

pub at_jobs : (p : ShownPass) (at : ℕ) (ws : List Work) (js : List Job) → EachAt (IsJobAt p) at ws js → AreAt p.table js
at_jobs p at [] [] h = tt
at_jobs p at [] (j ∷ js) h = absurd h
at_jobs p at (w ∷ ws) [] h = absurd h
at_jobs p at (w ∷ ws) (j ∷ js) h = (h.0.table, at_jobs p (at + 1) ws js h.1)

pub at_finished : (lets shuts heard : ℕ → ℕ → Type 0) (t : TableId) (js : List Job) (fs : List Finished) → AreAt t js → Each (EndsJob lets shuts heard) js fs → AllAt t fs
at_finished lets shuts heard t [] [] h k = tt
at_finished lets shuts heard t [] (f ∷ fs) h k = absurd k
at_finished lets shuts heard t (j ∷ js) [] h k = absurd k
at_finished lets shuts heard t (j ∷ js) (f ∷ fs) h k = (k.0.1.same.table ∙ h.0, at_finished lets shuts heard t js fs h.1 k.1)

-- what came of a worker more
starts_then : (a b c : List (Entry Call)) → StartsWith c b → StartsWith b a → StartsWith c a
starts_then a b c h k = (k.0 ++ h.0, h.1 ∙ (ap (λ z. z ++ h.0) k.1 ∙ append_assoc a k.0 h.0))

told_more : (seen : List (Entry Call)) (fs : List Finished) (f : Finished) → AllTold seen fs → StartsWith seen f.pass.seen → made_by f.pass.number seen ≡ f.pass.mine → AllTold seen (fs ++ f ∷ [])
told_more seen [] f h k l = (k, l, tt)
told_more seen (x ∷ xs) f h k l = (h.0, h.1, told_more seen xs f h.2 k l)

reports-append : (xs ys : List JobEnd) → reports_in (xs ++ ys) ≡ reports_in xs ++ reports_in ys
reports-append [] ys = refl
reports-append (x ∷ xs) ys = ap (λ l. reports_by x ++ l) (reports-append xs ys) ∙ sym (append_assoc (reports_by x) (reports_in xs) (reports_in ys))

answers-append : (xs ys : List JobEnd) → answers_in (xs ++ ys) ≡ answers_in xs ++ answers_in ys
answers-append [] ys = refl
answers-append (x ∷ xs) ys = ap (λ l. answers_by x ++ l) (answers-append xs ys) ∙ sym (append_assoc (answers_by x) (answers_in xs) (answers_in ys))

pub reports_more : (fs : List Finished) (f : Finished) (all : List Finished) (old new : List Report) → all ≡ fs ++ f ∷ [] → old ≡ reports_in (outcomes fs) → new ≡ old ++ reports_in (f.outcome ∷ []) → new ≡ reports_in (outcomes all)
reports_more fs f all old new more was put = put ∙ ap (λ l. l ++ reports_in (f.outcome ∷ [])) was ∙ sym (reports-append (outcomes fs) (f.outcome ∷ []))
    ∙ ap reports_in (sym (map-append (λ z. z.outcome) fs (f ∷ []))) ∙ ap (λ l. reports_in (outcomes l)) (sym more)

pub answers_more : (fs : List Finished) (f : Finished) (all : List Finished) (old new : List Asked) → all ≡ fs ++ f ∷ [] → old ≡ answers_in (outcomes fs) → new ≡ old ++ answers_in (f.outcome ∷ []) → new ≡ answers_in (outcomes all)
answers_more fs f all old new more was put = put ∙ ap (λ l. l ++ answers_in (f.outcome ∷ [])) was ∙ sym (answers-append (outcomes fs) (f.outcome ∷ []))
    ∙ ap answers_in (sym (map-append (λ z. z.outcome) fs (f ∷ []))) ∙ ap (λ l. answers_in (outcomes l)) (sym more)

one_report : (o : JobEnd) → length (reports_by o) ≤ 1
one_report (Reported r) = omega arith
one_report (Answered r) = omega arith

one_answer : (o : JobEnd) → length (answers_by o) ≤ 1
one_answer (Reported r) = omega arith
one_answer (Answered r) = omega arith

pub reports_few : (fs : List Finished) → length (reports_in (outcomes fs)) ≤ length fs
reports_few [] = omega arith
reports_few (f ∷ fs) = omega (arith, reports_few fs, one_report f.outcome, length-append (reports_by f.outcome) (reports_in (outcomes fs)))

pub answers_few : (fs : List Finished) → length (answers_in (outcomes fs)) ≤ length fs
answers_few [] = omega arith
answers_few (f ∷ fs) = omega (arith, answers_few fs, one_answer f.outcome, length-append (answers_by f.outcome) (answers_in (outcomes fs)))

-- what the pass saw of a worker when it met it, it has seen at the end
pub closes : (met back end : List (Entry Call)) (all fs : List Finished) (f : Finished) → all ≡ fs ++ f ∷ [] → StartsWith met f.pass.seen → StartsWith back met → end ≡ back → AllTold back fs
    → made_by f.pass.number end ≡ f.pass.mine → AllTold end all
closes met back end all fs f more heard on same told own = subst (λ z. AllTold end z) (sym more)
    (told_more end fs f (subst (λ z. AllTold z fs) (sym same) told) (subst (λ z. StartsWith z f.pass.seen) (sym same) (starts_then f.pass.seen met back on heard)) own)

-- what was there stays there
leave-append : (A : List EventValue) (a b : List (Entry Call)) → leave A (a ++ b) ≡ leave (leave A a) b
leave-append A [] b = refl
leave-append A (x ∷ xs) b = leave-append (arrivals_after A x.call) xs b

still_there : (A : List EventValue) (log : List (Entry Call)) (e : EventValue) → has key_cmp A e ≡ true → has key_cmp (leave A log) e ≡ true
still_there A [] e h = h
still_there A (x ∷ xs) e h = still_there (arrivals_after A x.call) xs e (keeps_having A (handled_by x.call.command x.call.reply) e h)

seen_still : (p q : ShownPass) (e : EventValue) → StartsWith q.seen p.seen → q.opening ≡ p.opening → has key_cmp (leaves p) e ≡ true → has key_cmp (leaves q) e ≡ true
seen_still p q e on same h = subst (λ z. has key_cmp z e ≡ true)
    (sym (ap (λ z. leave z q.seen) same ∙ ap (leave p.opening) on.1 ∙ leave-append p.opening p.seen on.0))
    (still_there (leaves p) on.0 e h)

performs_still : (lets shuts heard : ℕ → ℕ → Type 0) (n : ℕ) (w : Work) (m : List Call) (A B : List EventValue) (o : JobEnd) → ((e : EventValue) → has key_cmp A e ≡ true → has key_cmp B e ≡ true) → Performs lets shuts heard n w m A o → Performs lets shuts heard n w m B o
performs_still lets shuts heard n (work.Feed b) m A B (Reported r) more h = h
performs_still lets shuts heard n (work.Pull C) m A B (Reported r) more h = (
  h.0,
  (
    h.1.0,
    h.1.1,
    λ d. let k = h.1.2 d in record {
      peer = k.peer;
      takes = k.takes;
      told = k.told;
      handled_all = k.handled_all;
      holds = holds_on A B (delta (set_of C) k.peer) more k.holds;
    },
  ),
  h.2,
)
performs_still lets shuts heard n (work.Ask queries) m A B (Answered r) more h = h
performs_still lets shuts heard n (work.Feed b) m A B (Answered r) more h = absurd h
performs_still lets shuts heard n (work.Pull C) m A B (Answered r) more h = absurd h
performs_still lets shuts heard n (work.Ask queries) m A B (Reported r) more h = absurd h

-- what a worker did is what the pass has seen under its number
has_calls : (p : ShownPass) (place : ℕ) (j : Job) (f : Finished) (m : List Call) (seen : List (Entry Call)) → j.pass.number ≡ worker_of p place → j.pass.mine ≡ [] → Steps j.pass f.pass m
    → made_by f.pass.number seen ≡ f.pass.mine → HasCalls seen (worker_of p place) m
has_calls p place j f m seen number unused steps own =
    ap (λ z. made_by z seen) (sym (steps.same.number ∙ number)) ∙ own ∙ steps.mine
    ∙ ap (λ z. z ++ map (entry j.pass.number) m) unused ∙ ap (λ z. map (entry z) m) number

worker_tells : (lets shuts heard : ℕ → ℕ → Type 0) (p q : ShownPass) (place : ℕ) (w : Work) (j : Job) (f : Finished) → q.opening ≡ p.opening → IsJobAt p place w j → EndsJob lets shuts heard j f → StartsWith q.seen f.pass.seen → made_by f.pass.number q.seen ≡ f.pass.mine
    → WorkerTells lets shuts heard p q place w f.outcome
worker_tells lets shuts heard p q place w j f same is ends told own = (
  ends.0,
  has_calls p place j f ends.0 q.seen is.number is.unused ends.1 own,
  subst (λ n. Performs lets shuts heard n w ends.0 (leaves q) f.outcome) is.worker
      (subst (λ z. Performs lets shuts heard j.worker z ends.0 (leaves q) f.outcome) is.work
      (performs_still lets shuts heard j.worker j.work ends.0 (leaves f.pass) (leaves q) f.outcome (λ e h. seen_still f.pass q e told (same ∙ sym (ends.1.same.opening ∙ is.opening)) h) ends.2)),
)

pub all_tell : (lets shuts heard : ℕ → ℕ → Type 0) (p q : ShownPass) (at : ℕ) (ws : List Work) (js : List Job) (fs : List Finished) → q.opening ≡ p.opening → EachAt (IsJobAt p) at ws js → Each (EndsJob lets shuts heard) js fs → AllTold q.seen fs
    → EachAt (WorkerTells lets shuts heard p q) at ws (outcomes fs)
all_tell lets shuts heard p q at [] [] [] same a b c = tt
all_tell lets shuts heard p q at [] [] (f ∷ fs) same a b c = absurd b
all_tell lets shuts heard p q at [] (j ∷ js) fs same a b c = absurd a
all_tell lets shuts heard p q at (w ∷ ws) [] fs same a b c = absurd a
all_tell lets shuts heard p q at (w ∷ ws) (j ∷ js) [] same a b c = absurd b
all_tell lets shuts heard p q at (w ∷ ws) (j ∷ js) (f ∷ fs) same a b c = (worker_tells lets shuts heard p q at w j f same a.0 b.0 c.0 c.1, all_tell lets shuts heard p q (at + 1) ws js fs same a.1 b.1 c.2)

-- reports of feeds come first, then those of peers, then answers
feeds_tell : (lets shuts heard : ℕ → ℕ → Type 0) (p q : ShownPass) (at : ℕ) (bs : List (List ℕ)) (rest : List Work) (os : List JobEnd) → EachAt (WorkerTells lets shuts heard p q) at (map work.Feed bs ++ rest) os
    → (rs : List Report) × (more : List JobEnd) × (os ≡ map Reported rs ++ more) × EachAt (WorkerFeeds lets shuts heard p q) at bs rs × EachAt (WorkerTells lets shuts heard p q) (at + length bs) rest more
feeds_tell lets shuts heard p q at [] rest os h = ([], os, refl, tt, subst (λ n. EachAt (WorkerTells lets shuts heard p q) n rest os) (omega arith) h)
feeds_tell lets shuts heard p q at (b ∷ bs) rest [] h = absurd h
feeds_tell lets shuts heard p q at (b ∷ bs) rest (Reported r ∷ os) h = let k = feeds_tell lets shuts heard p q (at + 1) bs rest os h.1 in
    (r ∷ k.0, k.1, ap (λ z. Reported r ∷ z) k.2, ((h.0.0, h.0.1, h.0.2.0, h.0.2.1), k.3), subst (λ n. EachAt (WorkerTells lets shuts heard p q) n rest k.1) (omega arith) k.4)
feeds_tell lets shuts heard p q at (b ∷ bs) rest (Answered r ∷ os) h = absurd h.0.2

peers_tell : (lets shuts heard : ℕ → ℕ → Type 0) (p q : ShownPass) (at : ℕ) (As : List (List EventValue)) (rest : List Work) (os : List JobEnd) → EachAt (WorkerTells lets shuts heard p q) at (map work.Pull As ++ rest) os
    → (rs : List Report) × (more : List JobEnd) × (os ≡ map Reported rs ++ more) × EachAt (WorkerPulls lets shuts heard p q) at As rs × EachAt (WorkerTells lets shuts heard p q) (at + length As) rest more
peers_tell lets shuts heard p q at [] rest os h = ([], os, refl, tt, subst (λ n. EachAt (WorkerTells lets shuts heard p q) n rest os) (omega arith) h)
peers_tell lets shuts heard p q at (A ∷ As) rest [] h = absurd h
peers_tell lets shuts heard p q at (A ∷ As) rest (Reported r ∷ os) h = let k = peers_tell lets shuts heard p q (at + 1) As rest os h.1 in
    (r ∷ k.0, k.1, ap (λ z. Reported r ∷ z) k.2, ((h.0.0, h.0.1, h.0.2.0, h.0.2.1, h.0.2.2), k.3), subst (λ n. EachAt (WorkerTells lets shuts heard p q) n rest k.1) (omega arith) k.4)
peers_tell lets shuts heard p q at (A ∷ As) rest (Answered r ∷ os) h = absurd h.0.2

asks_tell : (lets shuts heard : ℕ → ℕ → Type 0) (p q : ShownPass) (at : ℕ) (qs : List (List Query)) (os : List JobEnd) → EachAt (WorkerTells lets shuts heard p q) at (map work.Ask qs) os → (rs : List Asked) × (os ≡ map Answered rs) × EachAt (WorkerAsks lets shuts heard p q) at qs rs
asks_tell lets shuts heard p q at [] [] h = ([], refl, tt)
asks_tell lets shuts heard p q at [] (o ∷ os) h = absurd h
asks_tell lets shuts heard p q at (x ∷ xs) [] h = absurd h
asks_tell lets shuts heard p q at (x ∷ xs) (Answered r ∷ os) h = let k = asks_tell lets shuts heard p q (at + 1) xs os h.1 in (r ∷ k.0, ap (λ z. Answered r ∷ z) k.1, ((h.0.0, h.0.1, h.0.2.0, h.0.2.1), k.2))
asks_tell lets shuts heard p q at (x ∷ xs) (Reported r ∷ os) h = absurd h.0.2

reports_first : (rs : List Report) (os : List JobEnd) → reports_in (map Reported rs ++ os) ≡ rs ++ reports_in os
reports_first [] os = refl
reports_first (r ∷ rs) os = ap (λ l. r ∷ l) (reports_first rs os)

answers_behind : (rs : List Report) (os : List JobEnd) → answers_in (map Reported rs ++ os) ≡ answers_in os
answers_behind [] os = refl
answers_behind (r ∷ rs) os = answers_behind rs os

no_reports : (rs : List Asked) → reports_in (map Answered rs) ≡ []
no_reports [] = refl
no_reports (r ∷ rs) = no_reports rs

all_answers : (rs : List Asked) → answers_in (map Answered rs) ≡ rs
all_answers [] = refl
all_answers (r ∷ rs) = ap (λ l. r ∷ l) (all_answers rs)

pub serves : (lets shuts heard : ℕ → ℕ → Type 0) (p q : ShownPass) (feeds : List (List ℕ)) (peers : List (List EventValue)) (asks : List (List Query)) (s : Served) (os : List JobEnd) → EachAt (WorkerTells lets shuts heard p q) 0 (works_of feeds peers asks) os
    → s.reports.items ≡ reports_in os → s.asked.items ≡ answers_in os → ServesJobs lets shuts heard p q feeds peers asks s
serves lets shuts heard p q feeds peers asks s os h reports answers =
    let a = feeds_tell lets shuts heard p q 0 feeds (map work.Pull peers ++ map work.Ask asks) os h in
    let behind = subst (λ n. EachAt (WorkerTells lets shuts heard p q) n (map work.Pull peers ++ map work.Ask asks) a.1) (omega arith) a.4 in
    let b = peers_tell lets shuts heard p q (length feeds) peers (map work.Ask asks) a.1 behind in
    let c = asks_tell lets shuts heard p q (length feeds + length peers) asks b.1 b.4 in record {
      fed = a.0;
      pulled = b.0;
      reports = reports ∙ ap reports_in a.2 ∙ reports_first a.0 a.1 ∙ ap (λ l. a.0 ++ l) (ap reports_in b.2 ∙ reports_first b.0 b.1 ∙ ap (λ l. b.0 ++ l) (ap reports_in c.1 ∙ no_reports c.0) ∙ append-nil b.0);
      each_feed = a.3;
      each_peer = b.3;
      each_ask = subst (λ l. EachAt (WorkerAsks lets shuts heard p q) (length feeds + length peers) asks l)
          (sym (answers ∙ ap answers_in a.2 ∙ answers_behind a.0 a.1 ∙ ap answers_in b.2 ∙ answers_behind b.0 b.1 ∙ ap answers_in c.1 ∙ all_answers c.0)) c.2;
    }

pub some_of : {X : Type 0} → (P : X → Type 0) (o : Option X) (x : X) → o ≡ Some x → IfSome o P → P x
some_of P (Some y) x is h = let same : y ≡ x = cc in subst P same h
some_of P None x is h = absurd (cc)
