-- Each kind of step keeps the rule, and tells what it says.
use Rattle.std.proofs.Common.{◌≡◌, ◌≢◌, ℕ, ◌+◌, ◌-◌, ◌%◌, ◌^◌, ◌<◌, ◌≤◌, Bool, true, false, cond, leb, eqb, List, [], ◌∷◌, ◌++◌, length, get_or, set, sym, refl, ap, ◌∙◌, subst, inl, inr, ⊎_elim, arith, le_refl, append_assoc, length-append, length-set, get_or-set_other, get_or-set_same}
use Rattle.std.proofs.lemmas.List.{append-nil}
use Rattle.std.proofs.lemmas.Bool.Decides.{leb_tells}
use Rattle.std.specs.Prelude.{Option, Some, None}
use mathlib.Core.Option.{some, some-injective}
use mathlib.Core.Option as maybe
use native.Mathlib.Decide.{ℕ_discrete}
use mathlib.Core.Logic.{dite}
use lib.ListN.{get_elem?}
use prog.Atomic.{either}
use Rattle.atomic_table.specs.Table.{State, Me, step, Act, Valid, carried_after, keeps, takes, gives, opening, stepped, Allows, Splits, Joins}
use Rattle.atomic_table.proofs.Lists.{set_again, set_here, set_else, at_snoc, exchanged}
use Rattle.turn_lock.specs.declared.machine.Entry.{Entry}
use Rattle.turn_lock.specs.declared.machine.View.{View}
use Rattle.turn_lock.specs.History.{made_by, StartsWith, GoesOnBelow, entry, after, IsLegal}
use Rattle.turn_lock.specs.View.{child, longer, shorter, newcomer, unmarked, noted, with_ticket, at_turn, ended_with, counted, born, note, spent, joined}
use Rattle.turn_lock.specs.Rule.{Knows, Turns}
use Rattle.turn_lock.specs.Step.{draws, comes, pends, ends, marks_split, sees_turns, learns}
use Rattle.turn_lock.proofs.HistoryLemmas.{made_by-append, made_by-one, made_by-none, made_by-other, starts_same, starts_longer, starts_shorter, legal-append, legal_prefix, after-append, between, at_prefix, nil_not, snoc_split}
use Rattle.turn_lock.proofs.RuleLemmas.{here_if, all_stay, only_place, only, changed, viewed, looked, stays_home, joins_in, no_loop}

module _ {O A C : Type 0} (state : O → A) (next : A → C → A) (fits : A → C → Type 0) where
  abbrev V : Type 0
  V = View A C

  abbrev St : Type 0
  St = State (Option O) V

  abbrev M : Type 0
  M = Me (Option O) V

  abbrev Rule : A → St → Type 0
  Rule = Turns state next fits

  pub counts_turns : (a : A) (slots id : ℕ) (me : M) → Allows (Rule a) slots id me 0 (λ x. x) (sees_turns state next fits (step slots 0 0 0 maybe.none) me)
  counts_turns a slots id me s r _ at _ = let k = r.each id me.0 at in (
    me.0,
    keeps,
    tt,
    looked state next fits a s r 0 id me.0 me.0 s.homes at k (λ n h. h) (le_refl me.0.splits) (λ h. inl (h, refl)) refl (λ none. r.home (stays_home state next fits s id me.0 me.0 at refl none)),
    (refl, let e : length r.log ≡ length me.0.seen + length k.starts.0 = ap length k.starts.1 ∙ length-append me.0.seen k.starts.0 in let w = r.ended in omega arith),
  )

  pub draws_ticket : (a : A) (slots id : ℕ) (me : M) (old new : ℕ) (n : List ℕ) → me.0.number ≡ Some n → me.0.ticket ≡ None → me.0.has_turn ≡ false → new ≡ old + 1 → old < 2 ^ 62
      → Allows (Rule a) slots id me 1 (λ x. either (eqb x old) new x) (draws state next fits (step slots 1 old new maybe.none) me)
  draws_ticket a slots id me old new n named idle home up small s r wide at _ = let v : V = me.0 in let x : ℕ = get_or s.words 1 0 in let two = r.two in let k = r.each id v at in
      exchanged x old new (λ y. (w : V) × (act : Act (Option O)) × Valid s.homes me.1 act × Rule a (stepped s 1 y id me.1 w act) × draws state next fits (step slots 1 old new maybe.none) me x (w, carried_after me.1 act))
      (λ hit. let w : V = with_ticket x v in let ws : List ℕ = set s.words 1 new in let word1 : get_or ws 1 0 ≡ new = get_or-set_same s.words 1 new 0 (omega arith) in let word0 : get_or ws 0 0 ≡ get_or s.words 0 0 = get_or-set_other s.words 1 0 new 0 (λ e. omega arith) in
      let drawn = r.drawn in let few = r.few in let ended = r.ended in (
        w,
        keeps,
        tt,
        changed state next fits a s r id v w ws s.homes r.log record {
          at = at;
          two = length-set s.words 1 new ∙ two;
          ended = word0 ∙ ended;
          drawn = omega arith;
          few = omega arith;
          legal = r.legal;
          mine = record {
            starts = k.starts;
            told = k.told;
            opens = k.opens;
            own = k.own;
            heard = k.heard;
            nameless = λ none. absurd (let e : Some n ≡ None = sym named ∙ none in cc);
            waits = λ t is. let e : x ≡ t = cc in (omega arith, omega arith);
            turn = λ is. absurd (let e : true ≡ false = sym is ∙ home in cc);
          };
          others = λ j u _ e. let q = r.each j u e in record {
            starts = q.starts;
            told = q.told;
            opens = q.opens;
            own = q.own;
            heard = q.heard;
            nameless = q.nameless;
            waits = λ t is. let p = q.waits t is in let p0 = p.0 in let p1 = p.1 in (omega arith, omega arith);
            turn = q.turn;
          };
          number = λ m h. h;
          splits = le_refl v.splits;
          mark = λ h. inl (h, refl);
          numbers = λ y e h. inl h;
          own_ticket = λ j u t ne e t1 t2. let p = (r.each j u e).waits t t1 in let p1 = p.1 in let same : x ≡ t = cc in omega arith;
          tickets = λ t from to. dite (ℕ_discrete t x) (λ is. inl (ap (λ (z : ℕ). Some z) (sym is)))
              (λ ne. let h = r.all_tickets t from (omega arith) in inr (h.0, h.1, (λ is. let same : h.1 ≡ v = some-injective h.1 v (sym h.2 ∙ ap (get_elem? s.views) is ∙ at) in let e : Some t ≡ None = sym h.3 ∙ ap (λ (u : V). u.ticket) same ∙ idle in cc), h.2, h.3));
          home = λ none. r.home (stays_home state next fits s id v w at refl none);
        },
        ((λ _. refl), λ miss. absurd (miss hit)),
      ))
      (λ miss. (v, keeps, tt, subst (λ (y : ℕ). Rule a (stepped s 1 y id me.1 v keeps)) refl (looked state next fits a s r 1 id v v s.homes at k (λ m h. h) (le_refl v.splits) (λ h. inl (h, refl)) refl (λ none. r.home (stays_home state next fits s id v v at refl none))), ((λ hit. absurd (miss hit)), λ _. refl)))

  not_true : (b : Bool) → (b ≡ true → ⊥) → b ≡ false
  not_true true h = absurd (h refl)
  not_true false h = refl

  -- whoever has the ticket of the turn and not the object finds the object at home
  nobody_has_it : (a : A) (s : St) (r : Rule a s) (id : ℕ) (v : V) → get_elem? s.views id ≡ some v → v.ticket ≡ Some (length r.log) → v.has_turn ≡ false
      → (j : ℕ) (u : V) → get_elem? s.views j ≡ some u → u.has_turn ≡ false
  nobody_has_it a s r id v at ticket none j u e = not_true u.has_turn (λ has. let h = ((r.each j u e).turn has).0 in let is = r.one_ticket j id u v (length r.log) e at h ticket in
      let same : u ≡ v = some-injective u v (sym e ∙ ap (get_elem? s.views) is ∙ at) in let wrong : true ≡ false = sym has ∙ (ap (λ (z : V). z.has_turn) same ∙ none) in absurd (cc))

  pub comes_turn : (a : A) (slots id : ℕ) (me : M) (n : List ℕ) (t : ℕ) → me.0.number ≡ Some n → me.0.ticket ≡ Some t → me.0.has_turn ≡ false
      → Allows (Rule a) slots id me 0 (λ x. x) (comes state next fits (step slots 0 0 0 maybe.none) me)
  comes_turn a slots id me n t named ticket none s r wide at _ = let v : V = me.0 in let x : ℕ = get_or s.words 0 0 in let k = r.each id v at in dite (ℕ_discrete t x)
      (λ hit. let ended = r.ended in let here : v.ticket ≡ Some (length r.log) = ticket ∙ ap (λ (z : ℕ). Some z) (hit ∙ ended) in
      let h = r.home (nobody_has_it a s r id v at here none) in let others = k.starts.0 in let is : r.log ≡ v.seen ++ others = k.starts.1 in let w : V = at_turn (v.seen ++ others) v in let opens : v.opening ≡ a = k.opens n named in (
        w,
        takes 0 (Some h.0),
        h.1,
        looked state next fits a s r 0 id v w (set s.homes 0 maybe.none) at record {
          starts = ([], is ∙ sym (append-nil (v.seen ++ others)));
          told = k.told;
          opens = k.opens;
          own = k.own;
          heard = λ m e. ap (made_by m) (sym is) ∙ k.own m e;
          nameless = k.nameless;
          waits = k.waits;
          turn = λ _. (here, sym is);
        } (λ m e. e) (le_refl v.splits) (λ h. inl (h, refl)) refl (λ all. absurd (let wrong : true ≡ false = all id w (here_if s.views id v w at) in cc)),
        (
          (λ _. record {
            object = h.0;
            others = others;
            becomes = refl;
            stands = h.2 ∙ (λ i. after next (sym opens i) (is i));
            legal = subst (λ (z : A × List (Entry C)). IsLegal next fits z.0 z.1) (λ i. (sym opens i, is i)) r.legal;
            own = λ m e. ap (made_by m) (sym is) ∙ k.own m e;
            below = λ m e. subst (GoesOnBelow m v.splits) is (r.below_log id v m at e);
          }),
          λ miss. absurd (miss (ticket ∙ ap (λ (z : ℕ). Some z) hit)),
        ),
      ))
      (λ miss. (
        v,
        keeps,
        tt,
        looked state next fits a s r 0 id v v s.homes at k (λ m e. e) (le_refl v.splits) (λ h. inl (h, refl)) refl (λ all. r.home (stays_home state next fits s id v v at refl all)),
        ((λ hit. absurd (miss (let e : Some t ≡ Some x = sym ticket ∙ hit in cc))), λ _. refl),
      ))

  ends_at : (a : A) (slots id : ℕ) (v : V) (o : O) (n : List ℕ) (c : C) → 0 < slots → v.number ≡ Some n → v.pending ≡ Some c → v.has_turn ≡ true
      → state o ≡ next (after next v.opening v.seen) c → fits (after next v.opening v.seen) c
      → Allows (Rule a) slots id (v, (0, Some o) ∷ []) 0 (λ x. (x + 1) % 2 ^ 64) (ends state next fits (step slots 0 1 0 maybe.none) (v, (0, Some o) ∷ []))
  ends_at a slots id v o n c some_slot named says has becomes fit s r wide at _ =
      let k = r.each id v at in let log = r.log in let turn = k.turn has in let e : Entry C = entry n c in let w : V = ended_with e v in let x : ℕ = get_or s.words 0 0 in let log' : List (Entry C) = log ++ e ∷ [] in
      let ended : x ≡ length log = r.ended in let range = k.waits (length log) turn.0 in let below : length log < get_or s.words 1 0 = range.1 in let few : get_or s.words 1 0 ≤ 2 ^ 62 = r.few in let two : length s.words ≡ 2 = r.two in
      let y : ℕ = (x + 1) % 2 ^ 64 in let up : y ≡ x + 1 = omega arith in let ws : List ℕ = set s.words 0 y in let word0 : get_or ws 0 0 ≡ y = get_or-set_same s.words 0 y 0 (omega arith) in
      let word1 : get_or ws 1 0 ≡ get_or s.words 1 0 = get_or-set_other s.words 0 1 y 0 (λ e. omega arith) in let len : length log' ≡ length log + 1 = length-append log (e ∷ []) in
      let opens : v.opening ≡ a = k.opens n named in let here : after next v.opening v.seen ≡ after next a log = λ i. after next (opens i) (turn.1 i) in
      let mine_now : (m : List ℕ) → v.number ≡ Some m → v.mine ++ made_by m (e ∷ []) ≡ v.mine ++ e ∷ [] = λ m h. let same : m ≡ n = (let z : Some m ≡ Some n = sym h ∙ named in cc) in ap (λ l. v.mine ++ l) (ap (λ z. made_by z (e ∷ [])) same ∙ made_by-one n c) in (
        w,
        gives,
        tt,
        changed state next fits a s r id v w ws (set s.homes 0 (some (Some o))) log' record {
          at = at;
          two = length-set s.words 0 y ∙ two;
          ended = word0 ∙ (up ∙ (omega arith));
          drawn = omega arith;
          few = omega arith;
          legal = legal-append next fits a log (e ∷ []) r.legal (subst (λ (z : A). fits z c) here fit, tt);
          mine = record {
            starts = ([], ap (λ l. l ++ e ∷ []) (sym turn.1) ∙ sym (append-nil (v.seen ++ e ∷ [])));
            told = starts_longer log v.told (e ∷ []) k.told;
            opens = k.opens;
            own = λ m h. made_by-append m log (e ∷ []) ∙ (ap (λ l. l ++ made_by m (e ∷ [])) (k.own m h) ∙ mine_now m h);
            heard = λ m h. made_by-append m v.seen (e ∷ []) ∙ (ap (λ l. l ++ made_by m (e ∷ [])) (k.heard m h) ∙ mine_now m h);
            nameless = λ _. refl;
            waits = λ t h. absurd (cc);
            turn = λ h. absurd (cc);
          };
          others = λ j u ne is. let q = r.each j u is in record {
            starts = starts_longer log u.seen (e ∷ []) q.starts;
            told = starts_longer log u.told (e ∷ []) q.told;
            opens = q.opens;
            own = λ m h. made_by-append m log (e ∷ []) ∙ (ap (λ l. made_by m log ++ l) (made_by-other m n c (λ same. ne (r.one_number j id u v n is at (h ∙ ap (λ (z : List ℕ). Some z) (sym same)) named))) ∙ (append-nil (made_by m log) ∙ q.own m h));
            heard = q.heard;
            nameless = q.nameless;
            waits = λ t h. let p = q.waits t h in let from : length log ≤ t = p.0 in let to = p.1 in
                let apart : t ≢ length log = (λ same. ne (r.one_ticket j id u v t is at h (turn.0 ∙ ap (λ (z : ℕ). Some z) (sym same)))) in (omega arith, omega arith);
            turn = λ h. absurd (ne (r.one_ticket j id u v (length log) is at (q.turn h).0 turn.0));
          };
          number = λ m h. h;
          splits = le_refl v.splits;
          mark = λ h. absurd (cc);
          numbers = λ z d h. ⊎_elim (λ (p : get_elem? log z ≡ some d). inl p) (λ (p : e ≡ d). inr (named ∙ ap (λ (q : Entry C). Some q.number) p)) (at_snoc log e d z h);
          own_ticket = λ j u t ne is t1 t2. cc;
          tickets = λ t from to. let h = r.all_tickets t (omega arith) (omega arith) in
              inr (h.0, h.1, (λ is. let same : h.1 ≡ v = some-injective h.1 v (sym h.2 ∙ ap (get_elem? s.views) is ∙ at) in let wrong : Some t ≡ Some (length log) = sym h.3 ∙ (ap (λ (u : V). u.ticket) same ∙ turn.0) in let wrong' : t ≡ length log = cc in omega arith), h.2, h.3);
          home = λ _. (o, set_here s.homes 0 (some (Some o)) (omega arith), becomes ∙ (ap (λ (z : A). next z c) here ∙ sym (after-append next a log (e ∷ []))));
        },
        λ m d h i. let same : n ≡ m = (let z : Some n ≡ Some m = sym named ∙ h in cc) in let same' : c ≡ d = (let z : Some c ≡ Some d = sym says ∙ i in cc) in λ j. (ended_with (entry (same j) (same' j)) v, []),
      )

  pub ends_turn : (a : A) (slots id : ℕ) (me : M) (o : O) (n : List ℕ) (c : C) → 0 < slots → me.1 ≡ (0, Some o) ∷ [] → me.0.number ≡ Some n → me.0.pending ≡ Some c → me.0.has_turn ≡ true
      → state o ≡ next (after next me.0.opening me.0.seen) c → fits (after next me.0.opening me.0.seen) c
      → Allows (Rule a) slots id me 0 (λ x. (x + 1) % 2 ^ 64) (ends state next fits (step slots 0 1 0 maybe.none) me)
  ends_turn a slots id me o n c some_slot holds named says has becomes fit =
      subst (λ (l : List (ℕ × Option O)). Allows (Rule a) slots id (me.0, l) 0 (λ x. (x + 1) % 2 ^ 64) (ends state next fits (step slots 0 1 0 maybe.none) (me.0, l))) (sym holds)
      (ends_at a slots id me.0 o n c some_slot named says has becomes fit)

  pub learns_all : (a : A) (slots id : ℕ) (me : M) → Allows (Rule a) slots id me 0 (λ x. x) (learns state next fits (step slots 0 0 0 maybe.none) me)
  learns_all a slots id me s r _ at _ = let v : V = me.0 in let k = r.each id v at in (
    v,
    keeps,
    tt,
    looked state next fits a s r 0 id v v s.homes at k (λ n h. h) (le_refl v.splits) (λ h. inl (h, refl)) refl (λ none. r.home (stays_home state next fits s id v v at refl none)),
    (
      refl,
      (λ named. let opens : v.opening ≡ a = k.opens named.0 named.1 in record {
        legal = legal_prefix next fits v.opening r.log v.seen k.starts (subst (λ (z : A). IsLegal next fits z r.log) (sym opens) r.legal);
        own = k.heard;
        below = λ n h x e i more is num. r.below_log id v n at h x e i more (at_prefix r.log v.seen x e k.starts is) num;
      }),
      starts_shorter r.log v.told v.seen k.told k.starts,
    ),
  )

  -- a note of what the seat has seen
  pub splits_note : (a : A) (id : ℕ) (v : V) → Splits (Rule a) id v v (note v)
  splits_note a id v s r at = let k = r.each id v at in subst (λ (vs : List V). Rule a record { words = s.words; homes = s.homes; views = vs ++ note v ∷ [] }) (sym (set_again s.views id v at))
      (joins_in state next fits a s r (note v) record {
        knows = record {
          starts = k.starts;
          told = (r.log, refl);
          opens = λ n h. absurd (cc);
          own = λ n h. absurd (cc);
          heard = λ n h. absurd (cc);
          nameless = λ _. refl;
          waits = λ t h. absurd (cc);
          turn = λ h. absurd (cc);
        };
        idle = refl;
        no_turn = refl;
        plain = refl;
        apart = λ j u n k more e _ _ _ h. cc;
        fresh = λ j u n e h i. cc;
        under = λ j u n k more e h i. absurd (cc);
        over = λ j u n k more e h i. cc;
        alone = λ n k more h. absurd (cc);
        below = λ n h. absurd (cc);
      })

  -- a split is counted, and its number is marked
  pub allows_split : (a : A) (slots id : ℕ) (me : M) → me.0.has_turn ≡ false → Allows (Rule a) slots id me 0 (λ x. x) (marks_split state next fits (step slots 0 0 0 maybe.none) me)
  allows_split a slots id me none s r _ at _ = let v : V = me.0 in let k = r.each id v at in (
    counted v,
    keeps,
    tt,
    looked state next fits a s r 0 id v (counted v) s.homes at record { starts = k.starts; told = k.told; opens = k.opens; own = k.own; heard = k.heard; nameless = k.nameless; waits = k.waits; turn = k.turn } (λ m h. h) (let g : v.splits ≤ v.splits + 1 = omega arith in g) (λ h. inr refl) refl (λ all. r.home (stays_home state next fits s id v (counted v) at refl all)),
    refl,
  )

  -- the call of the turn is noted
  pub pends_call : (a : A) (slots id : ℕ) (me : M) (said : Option C) (c : C) → said ≡ Some c → Allows (Rule a) slots id me 0 (λ x. x) (pends state next fits said (step slots 0 0 0 maybe.none) me)
  pends_call a slots id me said c says s r _ at _ = let v : V = me.0 in let k = r.each id v at in let w : V = noted c v in (
    w,
    keeps,
    tt,
    looked state next fits a s r 0 id v w s.homes at record { starts = k.starts; told = k.told; opens = k.opens; own = k.own; heard = k.heard; nameless = k.nameless; waits = k.waits; turn = k.turn } (λ m h. h) (le_refl v.splits) (λ h. inl (h, refl)) refl (λ all. r.home (stays_home state next fits s id v w at refl all)),
    λ d h. let same : c ≡ d = (let z : Some c ≡ Some d = sym says ∙ h in cc) in λ i. (noted (same i) v, me.1),
  )

  -- a pass of its own, with the marked number
  pub splits_pass : (a : A) (id : ℕ) (v : V) (n : List ℕ) → v.number ≡ Some n → v.marked ≡ true → Splits (Rule a) id v (unmarked v) (born v)
  unfolding viewed changed
  splits_pass a id v n named marked s r at =
      let k = r.each id v at in let w : V = unmarked v in let q : ℕ = v.splits - 1 in let b : List ℕ = n ++ q ∷ [] in let some_split : 0 < v.splits = r.counts_some id v at marked in let last : v.splits ≡ q + 1 = omega arith in
      let s' : St = record { words = s.words; homes = s.homes; views = set s.views id w } in
      let r' : Rule a s' = viewed state next fits a s r id v w s.homes at record { starts = k.starts; told = k.told; opens = k.opens; own = k.own; heard = k.heard; nameless = k.nameless; waits = k.waits; turn = k.turn } (λ m h. h) (le_refl v.splits) (λ h. absurd (cc)) refl (λ all. r.home (stays_home state next fits s id v w at refl all)) in
      let old = all_stay (λ (j : ℕ) (u : V). (u0 : V) × (get_elem? s.views j ≡ some u0) × ((n : List ℕ) → u.number ≡ Some n → u0.number ≡ Some n)) s.views id w (v, at, (λ m h. h)) (λ j u _ e. (u, e, (λ m h. h))) in
      let birth : (born v).number ≡ Some b = ap (λ (z : Option (List ℕ)). child z q) named in
      -- no view has the new number or goes on from it, and no entry
      let free : (j : ℕ) (u : V) (more : List ℕ) → get_elem? s'.views j ≡ some u → u.number ≡ Some (n ++ q ∷ more) → ⊥ = (λ j u more e h. let p = old j u e in r.free_views id j v p.0 n q more at p.1 marked named last (p.2 (n ++ q ∷ more) h)) in
      let unused : (x : ℕ) (e : Entry C) (more : List ℕ) → get_elem? r.log x ≡ some e → e.number ≡ n ++ q ∷ more → ⊥ = (λ x e more is num. r.free_log id v n q x e more at marked named last is num) in
      let is_b : (m : List ℕ) → (born v).number ≡ Some m → m ≡ n ++ q ∷ [] = (λ m h. let z : Some m ≡ Some b = sym h ∙ birth in cc) in
      let on : (m : List ℕ) (i : ℕ) (more : List ℕ) → m ≡ n ++ q ∷ [] → m ++ i ∷ more ≡ n ++ q ∷ (i ∷ more) = (λ m i more h. ap (λ (l : List ℕ). l ++ i ∷ more) h ∙ append_assoc n (q ∷ []) (i ∷ more)) in
      let there : get_elem? s'.views id ≡ some w = here_if s.views id v w at in
      joins_in state next fits a s' r' (born v) record {
        knows = record {
          starts = k.starts;
          told = (r.log, refl);
          opens = λ m h. k.opens n named;
          own = λ m h. made_by-none m r.log (λ x e is num. unused x e [] is (num ∙ is_b m h));
          heard = λ m h. made_by-none m v.seen (λ x e is num. unused x e [] (at_prefix r.log v.seen x e k.starts is) (num ∙ is_b m h));
          nameless = λ _. refl;
          waits = λ t h. absurd (cc);
          turn = λ h. absurd (cc);
        };
        idle = refl;
        no_turn = refl;
        plain = refl;
        apart = λ j u m i more e mk h si g. let same : n ++ q ∷ [] ≡ m ++ i ∷ more = sym (is_b (m ++ i ∷ more) g) in
            ⊎_elim (λ (p : (n ≡ m) × (q ≡ i)). let here : j ≡ id = r'.one_number j id u w n e there (h ∙ ap (λ (z : List ℕ). Some z) (sym p.0)) named in
            let is_w : u ≡ w = some-injective u w (sym e ∙ ap (get_elem? s'.views) here ∙ there) in let wrong : true ≡ false = sym mk ∙ ap (λ (z : V). z.marked) is_w in cc)
            (λ (p : (others : List ℕ) × (n ≡ m ++ i ∷ others)). r'.free_views j id u w m i p.0 e there mk h si (named ∙ ap (λ (z : List ℕ). Some z) p.1))
            (snoc_split n m q i more same);
        fresh = λ j u m e h i. free j u [] e (h ∙ ap (λ (z : List ℕ). Some z) (is_b m i));
        under = λ j u m i more e h g. let same : n ++ q ∷ [] ≡ m ++ i ∷ more = sym (is_b (m ++ i ∷ more) g) in
            ⊎_elim (λ (p : (n ≡ m) × (q ≡ i)). let here : j ≡ id = r'.one_number j id u w n e there (h ∙ ap (λ (z : List ℕ). Some z) (sym p.0)) named in
            let is_w : u ≡ w = some-injective u w (sym e ∙ ap (get_elem? s'.views) here ∙ there) in let many : u.splits ≡ q + 1 = ap (λ (z : V). z.splits) is_w ∙ last in let same_i : q ≡ i = p.1 in omega arith)
            (λ (p : (others : List ℕ) × (n ≡ m ++ i ∷ others)). r'.below_views j id u w m i p.0 e there h (named ∙ ap (λ (z : List ℕ). Some z) p.1))
            (snoc_split n m q i more same);
        over = λ j u m i more e h g. free j u (i ∷ more) e (g ∙ ap (λ (z : List ℕ). Some z) (on m i more (is_b m h)));
        alone = λ m i more h. no_loop m i more;
        below = λ m h x e i more is num. absurd (unused x e (i ∷ more) is (num ∙ on m i more (is_b m h)));
      }

  longer_of : (log x y : List (Entry C)) → StartsWith log x → StartsWith log y → StartsWith log (longer x y) × StartsWith log (shorter x y) × StartsWith (longer x y) x × (length (shorter x y) ≤ length (longer x y))
  longer_of log x y p q = let P : List (Entry C) → List (Entry C) → Type 0 = λ l s. StartsWith log l × StartsWith log s × StartsWith l x × (length s ≤ length l) in
      ⊎_elim (λ (t : (leb (length x) (length y) ≡ true) × (length x ≤ length y)). subst (λ (b : Bool). P (cond b y x) (cond b x y)) (sym t.0) (q, p, starts_shorter log x y p q t.1, t.1))
      (λ (t : (leb (length x) (length y) ≡ false) × (length y < length x)). let g : length y < length x = t.1 in subst (λ (b : Bool). P (cond b y x) (cond b x y)) (sym t.0) (p, q, starts_same x, (let h : length y ≤ length x = omega arith in h))) (leb_tells (length x) (length y))

  -- a pass learns what a note has seen, and the note is spent
  pub merges : (a : A) (id : ℕ) (v : V) (other : ℕ) (w : V) (blank : A) → v.has_turn ≡ false → w.number ≡ None → w.has_turn ≡ false → w.splits ≡ 0 → Joins (Rule a) id v other w (joined v w) (spent blank)
  unfolding viewed changed
  merges a id v other w blank none nameless none' few s r at apart there =
      let u : V = joined v w in let there0 : get_elem? s.views other ≡ some w = sym (set_else s.views id other u apart) ∙ there in let k = r.each id v at in let k' = r.each other w there0 in
      let l = longer_of r.log v.seen w.seen k.starts k'.starts in
      let s1 : St = record { words = s.words; homes = s.homes; views = set s.views id u } in
      let r1 : Rule a s1 = viewed state next fits a s r id v u s.homes at record {
        starts = l.0;
        told = l.1;
        opens = k.opens;
        own = k.own;
        heard = λ m h. between m r.log (longer v.seen w.seen) v.seen l.0 l.2 (k.own m h ∙ sym (k.heard m h)) ∙ k.heard m h;
        nameless = k.nameless;
        waits = k.waits;
        turn = λ h. absurd (let wrong : true ≡ false = sym h ∙ none in cc);
      } (λ m h. h) (le_refl v.splits) (λ h. inl (h, refl)) refl (λ all. r.home (stays_home state next fits s id v u at refl all)) in
      let zero_splits : w.splits ≤ 0 = omega arith in
      viewed state next fits a s1 r1 other w (spent blank) s.homes there record {
        starts = (r.log, refl);
        told = (r.log, refl);
        opens = λ m h. absurd (cc);
        own = λ m h. absurd (cc);
        heard = λ m h. absurd (cc);
        nameless = λ _. refl;
        waits = λ t h. absurd (cc);
        turn = λ h. absurd (cc);
      } (λ m h. absurd (cc)) zero_splits (λ h. absurd (cc)) (sym (k'.nameless nameless)) (λ all. r1.home (stays_home state next fits s1 other w (spent blank) there (sym none') all))

  -- the table as it is made
  pub opens : (o : O) → Rule (state o) (opening (0 ∷ 0 ∷ []) (Some o ∷ []) (newcomer [] (state o) []))
  opens o = record {
    log = [];
    two = refl;
    ended = refl;
    drawn = le_refl 0;
    few = let h : 0 ≤ 2 ^ 62 = omega arith in h;
    legal = tt;
    each = only (newcomer [] (state o) []) (λ (j : ℕ) (v : V). Knows [] (state o) 0 v) record {
      starts = ([], refl);
      told = ([], refl);
      opens = λ _ _. refl;
      own = λ _ _. refl;
      heard = λ _ _. refl;
      nameless = λ _. refl;
      waits = λ t h. absurd (cc);
      turn = λ h. absurd (cc);
    };
    one_number = λ i j v w n e1 e2 _ _. only_place (newcomer [] (state o) []) i v e1 ∙ sym (only_place (newcomer [] (state o) []) j w e2);
    one_ticket = λ i j v w t e1 e2 _ _. only_place (newcomer [] (state o) []) i v e1 ∙ sym (only_place (newcomer [] (state o) []) j w e2);
    all_tickets = λ t from to. absurd (omega arith);
    below_views = λ i j v w n k more e1 e2 n1 n2. only (newcomer [] (state o) []) (λ (i : ℕ) (v : V). v.number ≡ Some n → k < v.splits) (only (newcomer [] (state o) []) (λ (j : ℕ) (w : V). w.number ≡ Some (n ++ k ∷ more) → Some [] ≡ Some n → k < 0)
        (λ h1 h2. let e : [] ≡ n ++ k ∷ more = cc in absurd (nil_not n k more e)) j w e2 n2) i v e1 n1;
    below_log = λ i v n e1 n1 x e k more at is. absurd (maybe.some-ne-none e (sym at));
    free_views = λ i j v w n k more e1 e2 m1. absurd (only (newcomer [] (state o) []) (λ (i : ℕ) (v : V). v.marked ≡ true → ⊥) (λ h. cc) i v e1 m1);
    free_log = λ i v n k x e more e1 m1. absurd (only (newcomer [] (state o) []) (λ (i : ℕ) (v : V). v.marked ≡ true → ⊥) (λ h. cc) i v e1 m1);
    counts_some = λ i v e1 m1. absurd (only (newcomer [] (state o) []) (λ (i : ℕ) (v : V). v.marked ≡ true → ⊥) (λ h. cc) i v e1 m1);
    home = λ _. (o, refl, refl);
  }

  pub opens_with : (o k : O) (xs : List (Option O)) → k ≡ o → xs ≡ Some o ∷ [] → Rule (state k) (opening (0 ∷ 0 ∷ []) xs (newcomer [] (state k) []))
  opens_with o k xs same is = subst (λ (z : O × List (Option O)). Rule (state z.0) (opening (0 ∷ 0 ∷ []) z.1 (newcomer [] (state z.0) []))) (λ i. (sym same i, sym is i)) (opens o)
