-- What the feeds of a run brought.
use Rattle.std.proofs.Common.{◌≡◌, ◌+◌, ℕ, List, [], ◌∷◌, ◌++◌, true, false, cond, map, sym, ap, subst, ◌∙◌, append-nil, append_assoc}
use Rattle.std.specs.Prelude.{Contains}
use Rattle.std.proofs.lemmas.List.{append_cancel_left}
use Rattle.attributes.specs.Event.{EventValue}
use Rattle.inbox.specs.KeyOrder.{key_cmp}
use Rattle.inbox.specs.Ordered.{append_new, has}
use Rattle.inbox.specs.Sets.{set_of}
use Rattle.site.specs.Delta.{delta}
use Rattle.site.specs.Machine.{HasRightReply, arrivals_after, call, handled_by}
use Rattle.site.specs.declared.call.Command.TheVariants as command
use Rattle.site.specs.declared.call.Reply.TheVariants.{Summed}
use Rattle.site.specs.declared.call.Call.{Call}
use Rattle.turn_lock.specs.declared.machine.Entry.{Entry}
use Rattle.turn_lock.specs.History.{entry, made_by, same_number}
use Rattle.site_lock.specs.Pass.{IsHistory, ShownPass, leave, leaves}
use Rattle.feeds.specs.Pull.{BringsLacking, HoldsEach}
use Rattle.feeds.specs.Report.{handled}
use Rattle.feeds.specs.Serve.{EachAt, HasCalls, WorkerFeeds, WorkerPulls, worker_of}
use Rattle.feeds.specs.declared.report.Report.{Report}
use Rattle.feeds.proofs.PullLemmas.{holds_more}
use Rattle.keeper.proofs.LawLemmas.{leave-append, leave_grows}
use Rattle.run_command.specs.Outcome.{AreReports}
use Rattle.run_command.specs.Peer.{IsPulled}

abbrev pub IsFound : Type 0
IsFound = (A : List EventValue) (e : EventValue) → Contains A e → has key_cmp A e ≡ true

-- what is there stays there where more comes
pub holds_later : IsFound → (A B L more : List EventValue) → B ≡ A ++ more → HoldsEach A L → HoldsEach B L
holds_later is_found A B L more is h = subst (λ (z : List EventValue). HoldsEach B z) (append-nil L) (holds_more is_found A L [] B h (more, is))

-- what a call handled is there behind it
holds_handled : IsFound → (A L : List EventValue) → HoldsEach (append_new key_cmp A L) L
holds_handled is_found A L = holds_more is_found A [] L (append_new key_cmp A L) tt ([], ap (λ (z : List EventValue). append_new key_cmp z L) (sym (append-nil A)))

pub holds_both : (A L M : List EventValue) → HoldsEach A L → HoldsEach A M → HoldsEach A (L ++ M)
holds_both A [] M h k = k
holds_both A (x ∷ xs) M h k = (h.0, holds_both A xs M h.1 k)

-- one call of the pass more, where what comes behind it is there
mine_there : IsFound → (n : List ℕ) (e : Entry Call) (es : List (Entry Call)) (A : List EventValue) → ((cs : List Call) → made_by n es ≡ map (entry n) cs → HoldsEach (leave (arrivals_after A e.call) es) (handled cs))
    → (m : List Call) → e ∷ made_by n es ≡ map (entry n) m → HoldsEach (leave (arrivals_after A e.call) es) (handled m)
mine_there is_found n e es A behind [] is = absurd (cc)
mine_there is_found n e es A behind (c ∷ cs) is =
    let first : e ≡ entry n c = cc in
    let rest : made_by n es ≡ map (entry n) cs = cc in
    let L : List EventValue = handled_by c.command c.reply in
    let B = arrivals_after A e.call in
    let g = leave_grows B es in
    let now : HoldsEach B L = subst (λ (x : Entry Call). HoldsEach (arrivals_after A x.call) L) (sym first) (holds_handled is_found A L) in
    holds_both (leave B es) L (handled cs) (holds_later is_found B (leave B es) L g.0 g.1 now) (behind cs rest)

-- the events that one pass handled are there after a history that has its calls
all_there : IsFound → (n : List ℕ) (log : List (Entry Call)) (A : List EventValue) (m : List Call) → made_by n log ≡ map (entry n) m → HoldsEach (leave A log) (handled m)
all_there is_found n [] A [] is = tt
all_there is_found n [] A (c ∷ cs) is = absurd (cc)
all_there is_found n (e ∷ es) A m is =
    (elim (same_number e.number n) as (λ b. cond b (e ∷ made_by n es) (made_by n es) ≡ map (entry n) m → HoldsEach (leave (arrivals_after A e.call) es) (handled m)) [
      | true ↦ mine_there is_found n e es A (λ cs rest. all_there is_found n es (arrivals_after A e.call) cs rest) m
      | false ↦ (λ others. all_there is_found n es (arrivals_after A e.call) m others)
    ]) is

-- what is there at a moment of a history that began with these arrivals: what had come by then, and
-- behind it what came later
pub record Moment (A Z : List EventValue) (c : Call) : Type 0 where
  pub before : List EventValue
  pub behind : List EventValue
  pub splits : Z ≡ (A ++ before) ++ behind
  pub answers : HasRightReply (A ++ before) c

-- the first call of a pass in a history was answered at a moment of it
pub first_moment : (n : List ℕ) (log : List (Entry Call)) (A : List EventValue) (c : Call) (cs : List Call) → IsHistory A log → made_by n log ≡ map (entry n) (c ∷ cs) → Moment A (leave A log) c
first_moment n [] A c cs legal is = absurd (cc)
first_moment n (e ∷ es) A c cs legal is =
    (elim (same_number e.number n) as (λ b. cond b (e ∷ made_by n es) (made_by n es) ≡ map (entry n) (c ∷ cs) → Moment A (leave A (e ∷ es)) c) [
      | true ↦ (λ h. let first : e ≡ entry n c = cc in let g = leave_grows A (e ∷ es) in
          let now : HasRightReply A c = subst (λ (x : Entry Call). HasRightReply A x.call) first legal.0 in
          record { before = []; behind = g.0; splits = g.1 ∙ ap (λ (z : List EventValue). z ++ g.0) (sym (append-nil A)); answers = subst (λ (z : List EventValue). HasRightReply z c) (sym (append-nil A)) now })
      | false ↦ (λ h. let B = arrivals_after A e.call in let g = leave_grows A (e ∷ []) in
          let m = first_moment n es B c cs legal.1 h in
          let same : B ++ m.before ≡ A ++ (g.0 ++ m.before) = ap (λ (z : List EventValue). z ++ m.before) g.1 ∙ append_assoc A g.0 m.before in
          record { before = g.0 ++ m.before; behind = m.behind; splits = m.splits ∙ ap (λ (z : List EventValue). z ++ m.behind) same; answers = subst (λ (z : List EventValue). HasRightReply z c) same m.answers })
    ]) is

-- the beginning of a history is one
pub legal_front : (A : List EventValue) (xs ys : List (Entry Call)) → IsHistory A (xs ++ ys) → IsHistory A xs
legal_front A [] ys legal = tt
legal_front A (e ∷ es) ys legal = (legal.0, legal_front (arrivals_after A e.call) es ys legal.1)

-- what the workers of peers moved is among the arrivals, and what was lacking, where they were done
module _ (is_found : IsFound) (p q : ShownPass) (later : List (Entry Call)) (legal : IsHistory q.opening q.seen) (more : List EventValue) (grew : leave q.opening (q.seen ++ later) ≡ q.opening ++ more) where
  all : List EventValue
  all = leave q.opening (q.seen ++ later)

  -- what is there by then stays
  pub stays : (L : List EventValue) → HoldsEach (leaves q) L → HoldsEach (q.opening ++ more) L
  stays L h = let g = leave_grows (leaves q) later in subst (λ (z : List EventValue). HoldsEach z L) grew (holds_later is_found (leaves q) (leave q.opening (q.seen ++ later)) L g.0 (leave-append q.opening q.seen later ∙ g.1) h)

  pulled_one : (peer : List EventValue) (n : List ℕ) (m : List Call) → HasCalls q.seen n m → BringsLacking peer m (leaves q) → IsPulled q.opening more peer
  pulled_one peer n m calls b =
      let c : Call = call command.Summary (Summed b.peer) in
      let is : made_by n q.seen ≡ map (entry n) (c ∷ b.takes) = calls ∙ ap (λ (z : List Call). map (entry n) z) b.told in
      let at = first_moment n q.seen q.opening c b.takes legal is in
      let g = leave_grows (leaves q) later in
      let whole : q.opening ++ more ≡ q.opening ++ (at.before ++ (at.behind ++ g.0)) =
      sym grew ∙ (leave-append q.opening q.seen later ∙ (g.1 ∙ (ap (λ (z : List EventValue). z ++ g.0) at.splits ∙ (append_assoc (q.opening ++ at.before) at.behind g.0 ∙ append_assoc q.opening at.before (at.behind ++ g.0))))) in
      record {
        before = at.before;
        behind = at.behind ++ g.0;
        moment = append_cancel_left q.opening more (at.before ++ (at.behind ++ g.0)) whole;
        told = b.peer;
        digests = at.answers;
        brought = stays (delta (set_of peer) b.peer) b.holds;
      }

  pub each_pulled : (lets shuts heard : ℕ → ℕ → Type 0) (place : ℕ) (peers : List (List EventValue)) (pulled : List Report) → EachAt (WorkerPulls lets shuts heard p q) place peers pulled → AreReports q.opening more [] peers pulled
  each_pulled lets shuts heard place [] [] each = tt
  each_pulled lets shuts heard place [] (r ∷ rs) each = absurd each
  each_pulled lets shuts heard place (x ∷ xs) [] each = absurd each
  each_pulled lets shuts heard place (x ∷ xs) (r ∷ rs) each =
      let w = each.0 in let n = worker_of p place in (
        record {
          calls = w.0;
          pull = (w.2, w.3.0, w.3.1, λ done. let b = w.3.2 done in record { peer = b.peer; takes = b.takes; told = b.told; handled_all = b.handled_all; holds = stays (delta (set_of x) b.peer) b.holds });
          moved = stays (handled w.0) (all_there is_found n q.seen q.opening w.0 w.1);
          done = λ done. pulled_one x n w.0 w.1 (w.3.2 done);
        },
        each_pulled lets shuts heard (place + 1) xs rs each.1,
      )

  pub each_told : (lets shuts heard : ℕ → ℕ → Type 0) (place : ℕ) (feeds : List (List ℕ)) (peers : List (List EventValue)) (fed pulled : List Report) → EachAt (WorkerFeeds lets shuts heard p q) place feeds fed → AreReports q.opening more [] peers pulled
      → AreReports q.opening more feeds peers (fed ++ pulled)
  each_told lets shuts heard place [] peers [] pulled each rest = rest
  each_told lets shuts heard place [] peers (r ∷ rs) pulled each rest = absurd each
  each_told lets shuts heard place (b ∷ bs) peers [] pulled each rest = absurd each
  each_told lets shuts heard place (b ∷ bs) peers (r ∷ rs) pulled each rest =
      let w = each.0 in
      ((w.0, w.2, stays (handled w.0) (all_there is_found (worker_of p place) q.seen q.opening w.0 w.1)), each_told lets shuts heard (place + 1) bs peers rs pulled each.1 rest)
