-- What a pull brought, one page more at a time.
use Rattle.std.proofs.Common.{◌≡◌, ℕ, ◌+◌, ◌≤◌, ◌⊎◌, List, [], ◌∷◌, ◌++◌, Bool, true, false, ◌||◌, if◌then◌else◌, length, take, drop, sym, refl, ap, ◌∙◌, subst, append_assoc, append-nil, arith, inl, inr, length-append}
use Rattle.std.specs.Prelude.{Option, Some, None, Ok, Err, Contains}
use Rattle.std.specs.Ordering.{is_eq}
use Rattle.std.proofs.lemmas.List.{drop-drop, length-take, take-append-drop, take_min}
use Rattle.std.proofs.lemmas.List.Folds.{list_any-append}
use Rattle.attributes.specs.Event.{EventValue}
use Rattle.coverage.specs.Summary.{Sources}
use Rattle.inbox.specs.KeyOrder.{key_cmp}
use Rattle.inbox.specs.Ordered.{append_new, has}
use Rattle.inbox.specs.Sets.{set_of}
use Rattle.site.specs.Delta.{delta}
use Rattle.site.specs.Desk.{refused}
use Rattle.site.specs.Machine.{Follows, IsReply, Runs, arrivals_after, call, handled_by}
use Rattle.site.specs.declared.call.Call.{Call}
use Rattle.site.specs.declared.call.Command.TheVariants as command
use Rattle.site.specs.declared.call.Reply.{Reply}
use Rattle.site.specs.declared.call.Reply.TheVariants.{Answered, Paged, Refused, Summed, Took}
use Rattle.site.specs.declared.desk.DeskFault.{DeskFault}
use Rattle.site.specs.declared.desk.DeskFault.TheVariants as desk
use Rattle.feeds.specs.Pull.{ArePages, BringsLacking, EndsEmpty, HoldsEach, IsPullUnbegun, Pulled, Pulls, events_in, replied}
use Rattle.feeds.specs.Report.{AreAnswered, EndsEarly, Handles, HasCause, HasCauseIf, IsRefusedReply, handled, reported}
use Rattle.feeds.specs.declared.report.WorkerEnd.{WorkerEnd}
use Rattle.feeds.specs.declared.report.WorkerEnd.TheVariants.{BadInput, Done, GateShut, OutOfMemory}
use Rattle.feeds.specs.declared.report.Report.{Report}
use Rattle.feeds.specs.declared.report.Tally.{Tally}
use Rattle.feeds.specs.steps.Pull.{HasSameCounts, MovesPage, Pages, Pulling, SumsUp}
use Rattle.feeds.specs.steps.Tally.{Flushed, ComesBehindOthers}
use Rattle.feeds.proofs.CauseLemmas.{answered-append, answered_if, cause_behind, cause_if, early_if, last_refused, refused_fault}
use Rattle.feeds.proofs.TallyLemmas.{empty_is, fresh-append, handled-append, repeated-append, takes-append}

-- a page has at most 100 events
pub page_few : (A B : List EventValue) (peer : Sources) (place : ℕ) (L : List EventValue) → Follows A (call (command.DeltaPage peer place 100) (Paged L)) B → length L ≤ 100
page_few A B peer place L h = omega (arith, ap length h.1, length-take 100 (drop place (delta (set_of (A ++ h.0)) peer)))

-- the items of a list that is there are there in a longer one, and those that came too
found_itself : ((A : List EventValue) (e : EventValue) → Contains A e → has key_cmp A e ≡ true) → (e : EventValue) → has key_cmp (e ∷ []) e ≡ true
found_itself is_found e = is_found (e ∷ []) e (0, omega arith, refl)

still_has : (A O : List EventValue) (e : EventValue) → has key_cmp A e ≡ true → has key_cmp (A ++ O) e ≡ true
still_has A O e h = list_any-append (λ y. is_eq (key_cmp e y)) A O ∙ ap (λ b. b || has key_cmp O e) h

or_true : (b : Bool) → (b || true) ≡ true
or_true true = refl
or_true false = refl

has_last : ((A : List EventValue) (e : EventValue) → Contains A e → has key_cmp A e ≡ true) → (A : List EventValue) (e : EventValue) → has key_cmp (A ++ e ∷ []) e ≡ true
has_last is_found A e = list_any-append (λ y. is_eq (key_cmp e y)) A (e ∷ []) ∙ ap (λ b. has key_cmp A e || b) (found_itself is_found e) ∙ or_true (has key_cmp A e)

pub keeps_having : (A L : List EventValue) (e : EventValue) → has key_cmp A e ≡ true → has key_cmp (append_new key_cmp A L) e ≡ true
keeps_having A [] e h = h
keeps_having A (x ∷ xs) e h = elim (has key_cmp A x) as (λ b. has key_cmp (append_new key_cmp (if b then A else A ++ x ∷ []) xs) e ≡ true) [
  | true ↦ keeps_having A xs e h
  | false ↦ keeps_having (A ++ x ∷ []) xs e (still_has A (x ∷ []) e h)
]

there : ((A : List EventValue) (e : EventValue) → Contains A e → has key_cmp A e ≡ true) → (A : List EventValue) (x : EventValue) (b : Bool) → has key_cmp A x ≡ b → has key_cmp (if b then A else A ++ x ∷ []) x ≡ true
there is_found A x true h = h
there is_found A x false h = has_last is_found A x

holds_taken : ((A : List EventValue) (e : EventValue) → Contains A e → has key_cmp A e ≡ true) → (A L : List EventValue) → HoldsEach (append_new key_cmp A L) L
holds_taken is_found A [] = tt
holds_taken is_found A (x ∷ xs) = let B : List EventValue = if has key_cmp A x then A else A ++ x ∷ [] in
    (keeps_having B xs x (there is_found A x (has key_cmp A x) refl), holds_taken is_found B xs)

pub holds_on : (A B L : List EventValue) → ((e : EventValue) → has key_cmp A e ≡ true → has key_cmp B e ≡ true) → HoldsEach A L → HoldsEach B L
holds_on A B [] more h = tt
holds_on A B (x ∷ xs) more h = (more x h.0, holds_on A B xs more h.1)

holds-append : (A L M : List EventValue) → HoldsEach A L → HoldsEach A M → HoldsEach A (L ++ M)
holds-append A [] M h k = k
holds-append A (x ∷ xs) M h k = (h.0, holds-append A xs M h.1 k)

pub holds_more : ((A : List EventValue) (e : EventValue) → Contains A e → has key_cmp A e ≡ true) → (A L M B : List EventValue) → HoldsEach A L → ComesBehindOthers A M B → HoldsEach B (L ++ M)
holds_more is_found A L M B h gains = let C : List EventValue = append_new key_cmp (A ++ gains.0) M in
    subst (λ Z. HoldsEach Z (L ++ M)) (sym gains.1) (holds-append C L M
    (holds_on A C L (λ e had. keeps_having (A ++ gains.0) M e (still_has A gains.0 e had)) h)
    (holds_taken is_found (A ++ gains.0) M))

replied-append : (m n : List Call) → replied (m ++ n) ≡ replied m ++ replied n
replied-append [] n = refl
replied-append (c ∷ cs) n = ap (λ z. events_in c.reply ++ z) (replied-append cs n) ∙ sym (append_assoc (events_in c.reply) (replied cs) (replied n))

pub holds_replied : (B : List EventValue) (m n : List Call) → HoldsEach B (replied m ++ replied n) → HoldsEach B (replied (m ++ n))
holds_replied B m n h = subst (λ z. HoldsEach B z) (sym (replied-append m n)) h

pub holds_still : (A B : List EventValue) (m n : List Call) → HoldsEach A (replied m) → B ≡ A → replied n ≡ [] → HoldsEach B (replied (m ++ n))
holds_still A B m n h same none = subst (λ z. HoldsEach B z) (sym (replied-append m n ∙ ap (λ z. replied m ++ z) none ∙ append-nil (replied m))) (subst (λ Z. HoldsEach Z (replied m)) (sym same) h)

pages-append : (peer : Sources) (p : ℕ) (m n : List Call) → ArePages peer p m → ArePages peer (p + length (replied m)) n → ArePages peer p (m ++ n)
pages-append peer p [] n h k = subst (λ z. ArePages peer z n) (omega arith) k
pages-append peer p (c ∷ cs) n h k = (
  h.0,
  pages-append peer (p + length (events_in c.reply)) cs n h.1
      (subst (λ z. ArePages peer z n) (omega (arith, length-append (events_in c.reply) (replied cs))) k),
)

ends-cons : (c : Call) (n : List Call) → EndsEmpty n → EndsEmpty (c ∷ n)
ends-cons c [] h = absurd h
ends-cons c (d ∷ ds) h = h

ends-append : (m n : List Call) → EndsEmpty n → EndsEmpty (m ++ n)
ends-append [] n h = h
ends-append (c ∷ cs) n h = ends-cons c (cs ++ n) (ends-append cs n h)

-- no page was got
moved_nothing : (peer : Sources) (m : List Call) (t u : Tally) (ended : WorkerEnd) → EndsEarly ended → HasCause m ended → ArePages peer (t.fresh + t.repeated) m → replied m ≡ [] → HasSameCounts t u → MovesPage peer m [] t u (Some ended)
moved_nothing peer m t u ended early cause pages none same = record {
  pages = pages;
  handles = record { takes = tt; rest = []; order = sym none };
  counted = record { fresh = omega (arith, same.0); repeated = omega (arith, same.1); refused = same.2; all = refl };
  most = omega (arith, ap length none);
  whole = λ k. absurd (cc);
  ended = λ e k. let is : ended ≡ e = cc in inr (subst EndsEarly is early);
  cause = (cause, inl tt);
  done = λ k. let is : ended ≡ Done = cc in absurd (subst EndsEarly is early);
}

no_events : (fault : DeskFault) → events_in (refused fault) ≡ []
no_events (desk.OutOfMemory taken fresh) = refl

pub moved_not : (peer : Sources) (m : List Call) (t u : Tally) (ended : WorkerEnd) → Pages peer (t.fresh + t.repeated) m (Err ended) → HasSameCounts t u → MovesPage peer m [] t u (Some ended)
moved_not peer m t u GateShut none same = subst (λ z. MovesPage peer z [] t u (Some GateShut)) (sym none) (moved_nothing peer [] t u GateShut tt (inl tt) tt refl same)
moved_not peer m t u OutOfMemory (fault, one) same = let c : Call = call (command.DeltaPage peer (t.fresh + t.repeated) 100) (refused fault) in subst (λ z. MovesPage peer z [] t u (Some OutOfMemory)) (sym one)
    (moved_nothing peer (c ∷ []) t u OutOfMemory tt (inr (last_refused c (refused_fault fault), refl)) (refl, tt) (append-nil (events_in (refused fault)) ∙ no_events fault) same)
moved_not peer m t u Done never same = absurd never
moved_not peer m t u (BadInput f) never same = absurd never

-- the page was empty
pub moved_last : (peer : Sources) (m : List Call) (t u : Tally) (L : List EventValue) → Pages peer (t.fresh + t.repeated) m (Ok L) → length L ≡ 0 → HasSameCounts t u → MovesPage peer m [] t u (Some Done)
moved_last peer m t u (x ∷ xs) page empty same = absurd (omega (arith, empty))
moved_last peer m t u [] page empty same = subst (λ z. MovesPage peer z [] t u (Some Done)) (sym page.0) (record {
  pages = (refl, tt);
  handles = record { takes = tt; rest = []; order = refl };
  counted = record { fresh = omega (arith, same.0); repeated = omega (arith, same.1); refused = same.2; all = refl };
  most = omega arith;
  whole = λ k. absurd (cc);
  ended = λ e k. let is : Done ≡ e = cc in inl (sym is);
  cause = (inl ((λ r. r), tt), inl tt);
  done = λ k. (refl, refl, refl);
})

pub replied_page : (peer : Sources) (place : ℕ) (m : List Call) (L : List EventValue) → Pages peer place m (Ok L) → replied m ≡ L
replied_page peer place m L page = ap replied page.0 ∙ append-nil L

answered_page : (peer : Sources) (place : ℕ) (m : List Call) (L : List EventValue) → Pages peer place m (Ok L) → AreAnswered m
answered_page peer place m L page = subst (λ (z : List Call). AreAnswered z) (sym page.0) ((λ r. r), tt)

-- the page was handed over
pub moved : (peer : Sources) (m n : List Call) (t s u : Tally) (L left : List EventValue) (o : Option WorkerEnd) → Pages peer (t.fresh + t.repeated) m (Ok L) → HasSameCounts t s → Flushed n L left s u o → MovesPage peer m n t u o
moved peer m n t s u L left o page same f = let is = replied_page peer (t.fresh + t.repeated) m L page in let k = f.counted in record {
  pages = subst (λ z. ArePages peer (t.fresh + t.repeated) z) (sym page.0) (refl, tt);
  handles = subst (λ z. Handles n z) (sym is) f.handles;
  counted = record { fresh = omega (arith, same.0, k.fresh); repeated = omega (arith, same.1, k.repeated); refused = k.refused ∙ same.2; all = k.all };
  most = omega (arith, ap length is, page.1);
  whole = λ none. (f.whole none).0 ∙ sym is;
  ended = λ e k. inr (early_if n o e k f.stop);
  cause = (answered_if m o (answered_page peer (t.fresh + t.repeated) m L page), cause_if n o f.stop);
  done = λ k. absurd (early_if n o Done k f.stop);
}

pub pulling_start : (peer : Sources) (t : Tally) → t ≡ record { calls = 1; fresh = 0; repeated = 0; refused = 0 } → Pulling peer [] [] t
pulling_start peer t is = record { pages = tt; takes = tt; order = refl; fresh = ap (λ z. z.fresh) is; repeated = ap (λ z. z.repeated) is; all = refl; refused = ap (λ z. z.refused) is; answered = (tt, tt) }

-- what was counted is where the next page begins
place_is : (peer : Sources) (m n : List Call) (t : Tally) → Pulling peer m n t → t.fresh + t.repeated ≡ length (replied m)
place_is peer m n t p = omega (arith, p.fresh, p.repeated, p.all, ap length p.order)

more_pages : (peer : Sources) (m n k l : List Call) (t u : Tally) (o : Option WorkerEnd) → Pulling peer m n t → MovesPage peer k l t u o → ArePages peer 0 (m ++ k)
more_pages peer m n k l t u o p moves = pages-append peer 0 m k p.pages (subst (λ z. ArePages peer z k) (place_is peer m n t p ∙ omega arith) moves.pages)

pub pulls_on : (peer : Sources) (m n k l : List Call) (t u : Tally) (o : Option WorkerEnd) → o ≡ None → Pulling peer m n t → MovesPage peer k l t u o → Pulling peer (m ++ k) (n ++ l) u
pulls_on peer m n k l t u o none p moves = let c = moves.counted in record {
  pages = more_pages peer m n k l t u o p moves;
  takes = takes-append n l p.takes moves.handles.takes;
  order = handled-append n l ∙ ap (λ z. z ++ handled l) p.order ∙ ap (λ z. replied m ++ z) (moves.whole none) ∙ sym (replied-append m k);
  fresh = omega (arith, fresh-append n l, p.fresh, c.fresh);
  repeated = omega (arith, repeated-append n l, p.repeated, c.repeated);
  all = omega (arith, fresh-append n l, repeated-append n l, ap length (handled-append n l), length-append (handled n) (handled l), p.all, c.all);
  refused = c.refused ∙ p.refused;
  answered = (
    answered-append m k p.answered.0 (subst (λ (z : Option WorkerEnd). HasCauseIf k z) none moves.cause.0),
    answered-append n l p.answered.1 (subst (λ (z : Option WorkerEnd). HasCauseIf l z) none moves.cause.1),
  );
}

-- a page adds at most 100 to the counts
pub counts_few : (peer : Sources) (k l : List Call) (t u : Tally) (o : Option WorkerEnd) → MovesPage peer k l t u o → u.fresh + u.repeated ≤ t.fresh + t.repeated + 100
counts_few peer k l t u o moves = let c = moves.counted in
    omega (arith, c.fresh, c.repeated, c.all, moves.most, ap length moves.handles.order, length-append (handled l) moves.handles.rest)

pub pull_stops : (peer : Sources) (m n k l : List Call) (t u : Tally) (o : Option WorkerEnd) (ended : WorkerEnd) → o ≡ Some ended → Pulling peer m n t → MovesPage peer k l t u o → Pulled peer (m ++ k) (n ++ l) (reported u ended)
pull_stops peer m n k l t u o ended is p moves = let c = moves.counted in let hs = moves.handles in record {
  pages = more_pages peer m n k l t u o p moves;
  handles = record {
    takes = takes-append n l p.takes hs.takes;
    rest = hs.rest;
    order = ap (λ z. z ++ hs.rest) (handled-append n l) ∙ append_assoc (handled n) (handled l) hs.rest ∙ ap (λ z. handled n ++ z) hs.order ∙ ap (λ z. z ++ replied k) p.order ∙ sym (replied-append m k);
  };
  counts = record {
    fresh = omega (arith, fresh-append n l, p.fresh, c.fresh);
    repeated = omega (arith, repeated-append n l, p.repeated, c.repeated);
    handled = omega (arith, c.fresh, c.repeated, p.fresh, p.repeated, p.all, c.all, ap length (handled-append n l), length-append (handled n) (handled l));
    read = refl;
  };
  refused = c.refused ∙ p.refused;
  ended = moves.ended ended is;
  cause = (
    cause_behind m k ended p.answered.0 (subst (λ (z : Option WorkerEnd). HasCauseIf k z) is moves.cause.0),
    cause_behind n l ended p.answered.1 (subst (λ (z : Option WorkerEnd). HasCauseIf l z) is moves.cause.1),
  );
  done = λ d. let e = moves.done (is ∙ ap Some d) in
      (handled-append n l ∙ ap (λ z. z ++ handled l) p.order ∙ ap (λ z. replied m ++ z) e.0 ∙ sym (replied-append m k), ends-append m k e.2);
}

pub pull_short : (peer : Sources) (m n : List Call) (t : Tally) → Pulling peer m n t → Pulled peer m n (reported t OutOfMemory)
pull_short peer m n t p = record {
  pages = p.pages;
  handles = record { takes = p.takes; rest = []; order = append-nil (handled n) ∙ p.order };
  counts = record { fresh = p.fresh; repeated = p.repeated; handled = omega (arith, p.fresh, p.repeated, p.all); read = refl };
  refused = p.refused;
  ended = inr tt;
  cause = (inl p.answered.0, inl p.answered.1);
  done = λ d. absurd (cc);
}

pub early_sum : (n : List Call) (ended : WorkerEnd) → SumsUp n (Err ended) → EndsEarly ended
early_sum n OutOfMemory h = tt
early_sum n GateShut h = tt
early_sum n Done h = h
early_sum n (BadInput f) h = absurd h

asked_once : (n : List Call) (ended : WorkerEnd) → SumsUp n (Err ended) → ((ended ≡ GateShut) × (n ≡ [])) ⊎ ((ended ≡ OutOfMemory) × ((reply : Reply) × IsRefusedReply reply × (n ≡ call command.Summary reply ∷ [])))
asked_once n OutOfMemory h = inr (refl, (refused h.0, refused_fault h.0, h.1))
asked_once n GateShut h = inl (refl, h)
asked_once n Done h = absurd h
asked_once n (BadInput f) h = absurd h

pub unbegun : (n : List Call) (t : Tally) (ended : WorkerEnd) (r : Report) → SumsUp n (Err ended)
    → t ≡ record { calls = 0; fresh = 0; repeated = 0; refused = 0 } → r ≡ reported t ended → IsPullUnbegun [] n r
unbegun n t ended r sums start is =
    let same : r ≡ reported (record { calls = 0; fresh = 0; repeated = 0; refused = 0 }) ended = is ∙ ap (λ z. reported z ended) start in
    let ends : ended ≡ r.ended = sym (ap (λ (z : Report). z.ended) is) in record {
      no_pages = refl;
      asked = subst (λ (z : WorkerEnd). ((z ≡ GateShut) × (n ≡ [])) ⊎ ((z ≡ OutOfMemory) × ((reply : Reply) × IsRefusedReply reply × (n ≡ call command.Summary reply ∷ [])))) ends (asked_once n ended sums);
      early = subst EndsEarly ends (early_sum n ended sums);
      counts = same ∙ ap (λ z. reported (record { calls = 0; fresh = 0; repeated = 0; refused = 0 }) z) (sym (ap (λ z. z.ended) is));
    }

-- pages leave a site as it is
pages_leave : (A B : List EventValue) (peer : Sources) (p : ℕ) (m : List Call) → Runs A m B → ArePages peer p m → B ≡ A
pages_leave A B peer p [] runs pages = runs
pages_leave A B peer p (c ∷ cs) runs pages =
    let same : arrivals_after A c ≡ A = ap (λ z. append_new key_cmp A (handled_by z c.reply)) pages.0 in
    pages_leave (arrivals_after A c) B peer (p + length (events_in c.reply)) cs runs.1 pages.1 ∙ same

pub pull_leaves : (A B : List EventValue) (m n : List Call) (r : Report) → Runs A m B → Pulls m n r → B ≡ A
pull_leaves A B m n r runs (inl un) = subst (λ z. Runs A z B) un.no_pages runs
pull_leaves A B m n r runs (inr p) = pages_leave A B p.0 0 m runs p.3.pages

-- a page and what lies behind it
page_and_rest : (X L rest : List EventValue) (p : ℕ) → L ≡ take 100 (drop p X) → rest ≡ drop (p + length L) X → L ++ rest ≡ drop p X
page_and_rest X L rest p is behind =
    let whole : L ≡ take (length L) (drop p X) = is ∙ sym (ap (λ k. take k (drop p X)) (ap length is ∙ length-take 100 (drop p X)) ∙ take_min 100 (drop p X)) in
    ap (λ z. z ++ rest) whole ∙ ap (λ z. take (length L) (drop p X) ++ z) (behind ∙ sym (drop-drop (length L) p X)) ∙ take-append-drop (length L) (drop p X)

one_reply : (A : List EventValue) (peer : Sources) (p : ℕ) (reply : Reply) (rest : List EventValue) → IsReply A (command.DeltaPage peer p 100) reply
    → rest ≡ drop (p + length (events_in reply)) (delta (set_of A) peer) → events_in reply ++ rest ≡ drop p (delta (set_of A) peer)
one_reply A peer p (Paged L) rest is behind = page_and_rest (delta (set_of A) peer) L rest p is behind
one_reply A peer p (Refused taken fresh) rest is behind = behind ∙ ap (λ z. drop z (delta (set_of A) peer)) (omega arith)
one_reply A peer p (Took fresh repeated) rest is behind = absurd is
one_reply A peer p (Summed summary) rest is behind = absurd is
one_reply A peer p (Answered answer) rest is behind = absurd is

last_reply : (A : List EventValue) (peer : Sources) (p : ℕ) (reply : Reply) → reply ≡ Paged [] → IsReply A (command.DeltaPage peer p 100) reply → events_in reply ++ [] ≡ drop p (delta (set_of A) peer)
last_reply A peer p reply empty is =
    let page : [] ≡ take 100 (drop p (delta (set_of A) peer)) = subst (λ z. IsReply A (command.DeltaPage peer p 100) z) empty is in
    ap (λ z. events_in z ++ []) empty ∙ sym (empty_is (drop p (delta (set_of A) peer)) (omega (arith, ap length page, length-take 100 (drop p (delta (set_of A) peer)))))

-- the pages up to an empty one are all that the peer lacks
all_pages : (A B : List EventValue) (peer : Sources) (p : ℕ) (m : List Call) → Runs A m B → ArePages peer p m → EndsEmpty m → replied m ≡ drop p (delta (set_of A) peer)
all_pages A B peer p [] runs pages ends = absurd ends
all_pages A B peer p (c ∷ []) runs pages ends = last_reply A peer p c.reply ends (subst (λ z. IsReply A z c.reply) pages.0 runs.0)
all_pages A B peer p (c ∷ d ∷ ds) runs pages ends =
    let same : arrivals_after A c ≡ A = ap (λ z. append_new key_cmp A (handled_by z c.reply)) pages.0 in
    one_reply A peer p c.reply (replied (d ∷ ds)) (subst (λ z. IsReply A z c.reply) pages.0 runs.0)
    (all_pages A B peer (p + length (events_in c.reply)) (d ∷ ds) (subst (λ Z. Runs Z (d ∷ ds) B) same runs.1) pages.1 ends)

pub pull_brings : (A B C : List EventValue) (m n : List Call) (r : Report) → Runs A m B → Pulls m n r → (r.ended ≡ Done → HoldsEach C (replied m)) → r.ended ≡ Done → BringsLacking A n C
pull_brings A B C m n r runs (inl un) holds done = absurd (subst EndsEarly done un.early)
pull_brings A B C m n r runs (inr p) holds done = let e = p.3.done done in
    let all = all_pages A B p.0 0 m runs p.3.pages e.1 in record {
      peer = p.0;
      takes = p.1;
      told = p.2;
      handled_all = e.0 ∙ all;
      holds = subst (λ z. HoldsEach C z) all (holds done);
    }
