-- What keeps the rule: a step of one view, and a view that is new.
use Rattle.std.proofs.Common.{◌≡◌, ◌≢◌, ℕ, zero, suc, ◌+◌, ◌^◌, ◌<◌, ◌≤◌, true, false, List, [], ◌∷◌, ◌++◌, length, get_or, set, sym, refl, ap, ◌∙◌, subst, ◌⊎◌, inl, inr, ⊎_elim, arith, le_refl, length-append}
use Rattle.std.proofs.lemmas.List.{set-get_or}
use Rattle.std.specs.Prelude.{Option, Some, None}
use mathlib.Core.Option.{some, some-injective}
use mathlib.Core.Option as maybe
use native.Mathlib.Decide.{ℕ_discrete}
use mathlib.Core.Logic.{dite}
use lib.ListN.{get_elem?}
use Rattle.atomic_table.specs.Table.{State, Me}
use Rattle.atomic_table.proofs.Lists.{at_set, set_else, at_longer}
use Rattle.turn_lock.specs.declared.machine.Entry.{Entry}
use Rattle.turn_lock.specs.declared.machine.View.{View}
use Rattle.turn_lock.specs.History.{GoesOnBelow, after, IsLegal}
use Rattle.turn_lock.specs.Rule.{Knows, Turns}

pub here_if : {X : Type 0} (l : List X) (i : ℕ) (a b : X) → get_elem? l i ≡ some a → get_elem? (set l i b) i ≡ some b
here_if [] i a b e = absurd (maybe.some-ne-none a (sym e))
here_if (x ∷ xs) zero a b e = refl
here_if (x ∷ xs) (suc i) a b e = here_if xs i a b e

at_end : {X : Type 0} (l : List X) (a b : X) (j : ℕ) → get_elem? (l ++ a ∷ []) j ≡ some b → (get_elem? l j ≡ some b) ⊎ ((j ≡ length l) × (a ≡ b))
at_end [] a b zero e = inr (refl, some-injective a b e)
at_end [] a b (suc j) e = absurd (maybe.some-ne-none b (sym e))
at_end (x ∷ xs) a b zero e = inl e
at_end (x ∷ xs) a b (suc j) e = ⊎_elim (λ h. inl h) (λ (h : (j ≡ length xs) × (a ≡ b)). inr (ap suc h.0, h.1)) (at_end xs a b j e)

-- what holds of all, and of the new member at its place, holds of the longer list
all_join : {X : Type 0} (K : ℕ → X → Type 0) (vs : List X) (w : X) → K (length vs) w → ((j : ℕ) (d : X) → get_elem? vs j ≡ some d → K j d) → (j : ℕ) (d : X) → get_elem? (vs ++ w ∷ []) j ≡ some d → K j d
all_join {X} K vs w new olds j d e = ⊎_elim (olds j d) (λ (t : (j ≡ length vs) × (w ≡ d)). subst (λ (z : ℕ × X). K z.0 z.1) (λ i. (sym t.0 i, t.1 i)) new) (at_end vs w d j e)

pub only_place : {X : Type 0} (a : X) (i : ℕ) (v : X) → get_elem? (a ∷ []) i ≡ some v → i ≡ 0
only_place a zero v e = refl
only_place a (suc i) v e = absurd (maybe.some-ne-none v (sym e))

pub only : {X : Type 0} (a : X) (K : ℕ → X → Type 0) → K 0 a → (j : ℕ) (v : X) → get_elem? (a ∷ []) j ≡ some v → K j v
only {X} a K k zero v e = subst (K 0) (some-injective a v e) k
only {X} a K k (suc j) v e = absurd (maybe.some-ne-none v (sym e))

-- what holds of the changed member and of the others holds of all
pub all_stay : {X : Type 0} (K : ℕ → X → Type 0) (vs : List X) (me : ℕ) (w : X) → K me w → ((j : ℕ) (d : X) → j ≢ me → get_elem? vs j ≡ some d → K j d)
    → (j : ℕ) (d : X) → get_elem? (set vs me w) j ≡ some d → K j d
all_stay {X} K vs me w mine others j d e = ⊎_elim (λ (t : (j ≡ me) × (w ≡ d)). subst (λ (x : ℕ × X). K x.0 x.1) (λ i. (sym t.0 i, t.1 i)) mine)
    (λ (t : (j ≢ me) × (get_elem? vs j ≡ some d)). others j d t.0 t.1) (at_set vs me j w d e)

pub no_loop : (n : List ℕ) (k : ℕ) (more : List ℕ) → n ≡ n ++ k ∷ more → ⊥
no_loop n k more e = let h : length n ≡ length n + suc (length more) = ap length e ∙ length-append n (k ∷ more) in omega arith

module _ {O A C : Type 0} (state : O → A) (next : A → C → A) (fits : A → C → Type 0) where
  abbrev V : Type 0
  V = View A C

  abbrev St : Type 0
  St = State (Option O) V

  abbrev M : Type 0
  M = Me (Option O) V

  abbrev Rule : A → St → Type 0
  Rule = Turns state next fits

  -- a step of the seat id, whose view goes from v to w
  pub record Change (a : A) (s : St) (r : Turns state next fits a s) (id : ℕ) (v w : View A C) (ws : List ℕ) (homes : List (maybe.Option (Option O))) (log : List (Entry C)) : Type 0 where
    pub at : get_elem? s.views id ≡ some v
    pub two : length ws ≡ 2
    pub ended : get_or ws 0 0 ≡ length log
    pub drawn : length log ≤ get_or ws 1 0
    pub few : get_or ws 1 0 ≤ 2 ^ 62
    pub legal : IsLegal next fits a log
    pub mine : Knows log a (get_or ws 1 0) w
    pub others : (j : ℕ) (u : View A C) → j ≢ id → get_elem? s.views j ≡ some u → Knows log a (get_or ws 1 0) u
    pub number : (n : List ℕ) → w.number ≡ Some n → v.number ≡ Some n
    pub splits : v.splits ≤ w.splits
    pub mark : w.marked ≡ true → ((v.marked ≡ true) × (w.splits ≡ v.splits)) ⊎ (w.splits ≡ v.splits + 1)
    pub numbers : (x : ℕ) (e : Entry C) → get_elem? log x ≡ some e → (get_elem? r.log x ≡ some e) ⊎ (v.number ≡ Some e.number)
    pub own_ticket : (j : ℕ) (u : View A C) (t : ℕ) → j ≢ id → get_elem? s.views j ≡ some u → u.ticket ≡ Some t → w.ticket ≡ Some t → ⊥
    pub tickets : (t : ℕ) → length log ≤ t → t < get_or ws 1 0 → (w.ticket ≡ Some t) ⊎ ((j : ℕ) × (u : View A C) × (j ≢ id) × (get_elem? s.views j ≡ some u) × (u.ticket ≡ Some t))
    pub home : ((j : ℕ) (u : View A C) → get_elem? (set s.views id w) j ≡ some u → u.has_turn ≡ false) → (o : O) × (get_elem? homes 0 ≡ some (some (Some o))) × (state o ≡ after next a log)

  abbrev Old : St → ℕ → V → Type 0
  Old s j u = (u0 : V) × (get_elem? s.views j ≡ some u0) × ((n : List ℕ) → u.number ≡ Some n → u0.number ≡ Some n) × (u0.splits ≤ u.splits) × (u.marked ≡ true → ((u0.marked ≡ true) × (u.splits ≡ u0.splits)) ⊎ (u.splits ≡ u0.splits + 1))

  unfoldable pub changed : (a : A) (s : St) (r : Rule a s) (id : ℕ) (v w : V) (ws : List ℕ) (homes : List (maybe.Option (Option O))) (log : List (Entry C)) → Change a s r id v w ws homes log
      → Rule a record { words = ws; homes = homes; views = set s.views id w }
  changed a s r id v w ws homes log c = let old = all_stay (Old s) s.views id w (v, c.at, c.number, c.splits, c.mark) (λ j u _ at. (u, at, (λ n h. h), le_refl u.splits, (λ h. inl (h, refl)))) in record {
    log = log;
    two = c.two;
    ended = c.ended;
    drawn = c.drawn;
    few = c.few;
    legal = c.legal;
    each = all_stay (λ (j : ℕ) (u : V). Knows log a (get_or ws 1 0) u) s.views id w c.mine c.others;
    one_number = λ i j u1 u2 n e1 e2 n1 n2. let p = old i u1 e1 in let q = old j u2 e2 in r.one_number i j p.0 q.0 n p.1 q.1 (p.2 n n1) (q.2 n n2);
    one_ticket = λ i j u1 u2 t e1 e2. all_stay (λ (i : ℕ) (u1 : V). u1.ticket ≡ Some t → u2.ticket ≡ Some t → i ≡ j) s.views id w
        (all_stay (λ (j : ℕ) (u2 : V). w.ticket ≡ Some t → u2.ticket ≡ Some t → id ≡ j) s.views id w (λ _ _. refl) (λ j u ne at t1 t2. absurd (c.own_ticket j u t ne at t2 t1)) j u2 e2)
        (λ i u1 ne1 at1. all_stay (λ (j : ℕ) (u2 : V). u1.ticket ≡ Some t → u2.ticket ≡ Some t → i ≡ j) s.views id w (λ t1 t2. absurd (c.own_ticket i u1 t ne1 at1 t1 t2))
        (λ j u ne at t1 t2. r.one_ticket i j u1 u t at1 at t1 t2) j u2 e2) i u1 e1;
    all_tickets = λ t from to. ⊎_elim (λ (h : w.ticket ≡ Some t). (id, w, here_if s.views id v w c.at, h))
        (λ (h : (j : ℕ) × (u : V) × (j ≢ id) × (get_elem? s.views j ≡ some u) × (u.ticket ≡ Some t)). (h.0, h.1, set_else s.views id h.0 w h.2 ∙ h.3, h.4)) (c.tickets t from to);
    below_views = λ i j u1 u2 n k more e1 e2 n1 n2. let p = old i u1 e1 in let q = old j u2 e2 in let g : k < p.0.splits = r.below_views i j p.0 q.0 n k more p.1 q.1 (p.2 n n1) (q.2 (n ++ k ∷ more) n2) in let l : p.0.splits ≤ u1.splits = p.3 in omega arith;
    below_log = λ i u n e1 n1 x e k more at is. let p = old i u e1 in let l : p.0.splits ≤ u.splits = p.3 in
        let g : k < p.0.splits = ⊎_elim (λ (h : get_elem? r.log x ≡ some e). r.below_log i p.0 n p.1 (p.2 n n1) x e k more h is)
        (λ (h : v.number ≡ Some e.number). r.below_views i id p.0 v n k more p.1 c.at (p.2 n n1) (h ∙ ap (λ (b : List ℕ). Some b) is)) (c.numbers x e at) in omega arith;
    free_views = λ i j u1 u2 n k more e1 e2 m1 n1 s1 n2. let p = old i u1 e1 in let q = old j u2 e2 in
        ⊎_elim (λ (t : (p.0.marked ≡ true) × (u1.splits ≡ p.0.splits)). r.free_views i j p.0 q.0 n k more p.1 q.1 t.0 (p.2 n n1) (sym t.1 ∙ s1) (q.2 (n ++ k ∷ more) n2))
        (λ (t : u1.splits ≡ p.0.splits + 1). let g : k < p.0.splits = r.below_views i j p.0 q.0 n k more p.1 q.1 (p.2 n n1) (q.2 (n ++ k ∷ more) n2) in let t' : u1.splits ≡ p.0.splits + 1 = t in omega arith) (p.4 m1);
    free_log = λ i u n k x e more e1 m1 n1 s1 at is. let p = old i u e1 in
        ⊎_elim (λ (t : (p.0.marked ≡ true) × (u.splits ≡ p.0.splits)). ⊎_elim (λ (h : get_elem? r.log x ≡ some e). r.free_log i p.0 n k x e more p.1 t.0 (p.2 n n1) (sym t.1 ∙ s1) h is)
        (λ (h : v.number ≡ Some e.number). r.free_views i id p.0 v n k more p.1 c.at t.0 (p.2 n n1) (sym t.1 ∙ s1) (h ∙ ap (λ (b : List ℕ). Some b) is)) (c.numbers x e at))
        (λ (t : u.splits ≡ p.0.splits + 1). let t' : u.splits ≡ p.0.splits + 1 = t in
        let g : k < p.0.splits = ⊎_elim (λ (h : get_elem? r.log x ≡ some e). r.below_log i p.0 n p.1 (p.2 n n1) x e k more h is)
        (λ (h : v.number ≡ Some e.number). r.below_views i id p.0 v n k more p.1 c.at (p.2 n n1) (h ∙ ap (λ (b : List ℕ). Some b) is)) (c.numbers x e at) in omega arith) (p.4 m1);
    counts_some = λ i u e1 m1. let p = old i u e1 in
        ⊎_elim (λ (t : (p.0.marked ≡ true) × (u.splits ≡ p.0.splits)). let g : 0 < p.0.splits = r.counts_some i p.0 p.1 t.0 in let t' : u.splits ≡ p.0.splits = t.1 in omega arith) (λ (t : u.splits ≡ p.0.splits + 1). let t' : u.splits ≡ p.0.splits + 1 = t in omega arith) (p.4 m1);
    home = c.home;
  }

  -- the words stay, and so do the ticket and the history; the number stays or goes
  unfoldable pub viewed : (a : A) (s : St) (r : Rule a s) (id : ℕ) (v w : V) (homes : List (maybe.Option (Option O))) → get_elem? s.views id ≡ some v → Knows r.log a (get_or s.words 1 0) w
      → ((n : List ℕ) → w.number ≡ Some n → v.number ≡ Some n) → v.splits ≤ w.splits → (w.marked ≡ true → ((v.marked ≡ true) × (w.splits ≡ v.splits)) ⊎ (w.splits ≡ v.splits + 1)) → w.ticket ≡ v.ticket
      → (((j : ℕ) (u : V) → get_elem? (set s.views id w) j ≡ some u → u.has_turn ≡ false) → (o : O) × (get_elem? homes 0 ≡ some (some (Some o))) × (state o ≡ after next a r.log))
      → Rule a record { words = s.words; homes = homes; views = set s.views id w }
  viewed a s r id v w homes at knows number splits mark ticket home = changed a s r id v w s.words homes r.log record {
    at = at;
    two = r.two;
    ended = r.ended;
    drawn = r.drawn;
    few = r.few;
    legal = r.legal;
    mine = knows;
    others = λ j u _ e. r.each j u e;
    number = number;
    splits = splits;
    mark = mark;
    numbers = λ x e h. inl h;
    own_ticket = λ j u t ne e t1 t2. ne (r.one_ticket j id u v t e at t1 (sym ticket ∙ t2));
    tickets = λ t from to. let h = r.all_tickets t from to in dite (ℕ_discrete h.0 id)
        (λ is. let same : h.1 ≡ v = some-injective h.1 v (sym h.2 ∙ ap (get_elem? s.views) is ∙ at) in inl (ticket ∙ ap (λ (u : V). u.ticket) (sym same) ∙ h.3))
        (λ ne. inr (h.0, h.1, ne, h.2, h.3));
    home = home;
  }

  -- a look: the same where a word is read
  pub looked : (a : A) (s : St) (r : Rule a s) (i id : ℕ) (v w : V) (homes : List (maybe.Option (Option O))) → get_elem? s.views id ≡ some v → Knows r.log a (get_or s.words 1 0) w
      → ((n : List ℕ) → w.number ≡ Some n → v.number ≡ Some n) → v.splits ≤ w.splits → (w.marked ≡ true → ((v.marked ≡ true) × (w.splits ≡ v.splits)) ⊎ (w.splits ≡ v.splits + 1)) → w.ticket ≡ v.ticket
      → (((j : ℕ) (u : V) → get_elem? (set s.views id w) j ≡ some u → u.has_turn ≡ false) → (o : O) × (get_elem? homes 0 ≡ some (some (Some o))) × (state o ≡ after next a r.log))
      → Rule a record { words = set s.words i (get_or s.words i 0); homes = homes; views = set s.views id w }
  looked a s r i id v w homes at knows number splits mark ticket home = subst (λ (ws : List ℕ). Rule a record { words = ws; homes = homes; views = set s.views id w }) (sym (set-get_or s.words i 0))
      (viewed a s r id v w homes at knows number splits mark ticket home)

  -- while no step changes who has the turn, the object stays at home
  pub stays_home : (s : St) (id : ℕ) (v w : V) → get_elem? s.views id ≡ some v → w.has_turn ≡ v.has_turn → ((j : ℕ) (u : V) → get_elem? (set s.views id w) j ≡ some u → u.has_turn ≡ false)
      → (j : ℕ) (u : V) → get_elem? s.views j ≡ some u → u.has_turn ≡ false
  stays_home s id v w at same none j u e = dite (ℕ_discrete j id)
      (λ is. let is_v : u ≡ v = some-injective u v (sym e ∙ ap (get_elem? s.views) is ∙ at) in ap (λ (z : V). z.has_turn) is_v ∙ sym same ∙ none id w (here_if s.views id v w at))
      (λ ne. none j u (set_else s.views id j w ne ∙ e))

  -- a new view, which nobody knows of
  pub record Addition (a : A) (s : St) (r : Turns state next fits a s) (w : View A C) : Type 0 where
    pub knows : Knows r.log a (get_or s.words 1 0) w
    pub idle : w.ticket ≡ None
    pub no_turn : w.has_turn ≡ false
    pub plain : w.marked ≡ false
    pub apart : (j : ℕ) (u : View A C) (n : List ℕ) (k : ℕ) (more : List ℕ) → get_elem? s.views j ≡ some u → u.marked ≡ true → u.number ≡ Some n → u.splits ≡ k + 1 → w.number ≡ Some (n ++ k ∷ more) → ⊥
    pub fresh : (j : ℕ) (u : View A C) (n : List ℕ) → get_elem? s.views j ≡ some u → u.number ≡ Some n → w.number ≡ Some n → ⊥
    pub under : (j : ℕ) (u : View A C) (n : List ℕ) (k : ℕ) (more : List ℕ) → get_elem? s.views j ≡ some u → u.number ≡ Some n → w.number ≡ Some (n ++ k ∷ more) → k < u.splits
    pub over : (j : ℕ) (u : View A C) (n : List ℕ) (k : ℕ) (more : List ℕ) → get_elem? s.views j ≡ some u → w.number ≡ Some n → u.number ≡ Some (n ++ k ∷ more) → ⊥
    pub alone : (n : List ℕ) (k : ℕ) (more : List ℕ) → w.number ≡ Some n → n ≡ n ++ k ∷ more → ⊥
    pub below : (n : List ℕ) → w.number ≡ Some n → GoesOnBelow n w.splits r.log

  pub joins_in : (a : A) (s : St) (r : Rule a s) (w : V) → Addition a s r w → Rule a record { words = s.words; homes = s.homes; views = s.views ++ w ∷ [] }
  joins_in a s r w c = let vs : List V = s.views in let m : ℕ = length vs in record {
    log = r.log;
    two = r.two;
    ended = r.ended;
    drawn = r.drawn;
    few = r.few;
    legal = r.legal;
    each = all_join (λ (j : ℕ) (u : V). Knows r.log a (get_or s.words 1 0) u) vs w c.knows r.each;
    one_number = λ i j u1 u2 n e1 e2. all_join (λ (i : ℕ) (u1 : V). u1.number ≡ Some n → u2.number ≡ Some n → i ≡ j) vs w
        (all_join (λ (j : ℕ) (u2 : V). w.number ≡ Some n → u2.number ≡ Some n → m ≡ j) vs w (λ _ _. refl) (λ j u at n1 n2. absurd (c.fresh j u n at n2 n1)) j u2 e2)
        (λ i u1 at1. all_join (λ (j : ℕ) (u2 : V). u1.number ≡ Some n → u2.number ≡ Some n → i ≡ j) vs w (λ n1 n2. absurd (c.fresh i u1 n at1 n1 n2)) (λ j u at n1 n2. r.one_number i j u1 u n at1 at n1 n2) j u2 e2) i u1 e1;
    one_ticket = λ i j u1 u2 t e1 e2. all_join (λ (i : ℕ) (u1 : V). u1.ticket ≡ Some t → u2.ticket ≡ Some t → i ≡ j) vs w
        (λ t1 _. absurd (let wrong : Some t ≡ None = sym t1 ∙ c.idle in cc))
        (λ i u1 at1. all_join (λ (j : ℕ) (u2 : V). u1.ticket ≡ Some t → u2.ticket ≡ Some t → i ≡ j) vs w (λ _ t2. absurd (let wrong : Some t ≡ None = sym t2 ∙ c.idle in cc)) (λ j u at t1 t2. r.one_ticket i j u1 u t at1 at t1 t2) j u2 e2) i u1 e1;
    all_tickets = λ t from to. let h = r.all_tickets t from to in (h.0, h.1, at_longer vs (w ∷ []) h.0 h.1 h.2, h.3);
    below_views = λ i j u1 u2 n k more e1 e2. all_join (λ (i : ℕ) (u1 : V). u1.number ≡ Some n → u2.number ≡ Some (n ++ k ∷ more) → k < u1.splits) vs w
        (all_join (λ (j : ℕ) (u2 : V). w.number ≡ Some n → u2.number ≡ Some (n ++ k ∷ more) → k < w.splits) vs w
        (λ n1 n2. absurd (let same : n ≡ n ++ k ∷ more = (let z : Some n ≡ Some (n ++ k ∷ more) = sym n1 ∙ n2 in cc) in c.alone n k more n1 same)) (λ j u at n1 n2. absurd (c.over j u n k more at n1 n2)) j u2 e2)
        (λ i u1 at1. all_join (λ (j : ℕ) (u2 : V). u1.number ≡ Some n → u2.number ≡ Some (n ++ k ∷ more) → k < u1.splits) vs w (λ n1 n2. c.under i u1 n k more at1 n1 n2) (λ j u at n1 n2. r.below_views i j u1 u n k more at1 at n1 n2) j u2 e2) i u1 e1;
    below_log = λ i u n e1 n1. all_join (λ (i : ℕ) (u : V). u.number ≡ Some n → GoesOnBelow n u.splits r.log) vs w (c.below n) (λ i u at h. r.below_log i u n at h) i u e1 n1;
    free_views = λ i j u1 u2 n k more e1 e2. all_join (λ (i : ℕ) (u1 : V). u1.marked ≡ true → u1.number ≡ Some n → u1.splits ≡ k + 1 → u2.number ≡ Some (n ++ k ∷ more) → ⊥) vs w
        (λ m1 _ _ _. let wrong : true ≡ false = sym m1 ∙ c.plain in cc)
        (λ i u1 at1. all_join (λ (j : ℕ) (u2 : V). u1.marked ≡ true → u1.number ≡ Some n → u1.splits ≡ k + 1 → u2.number ≡ Some (n ++ k ∷ more) → ⊥) vs w (c.apart i u1 n k more at1) (λ j u at. r.free_views i j u1 u n k more at1 at) j u2 e2) i u1 e1;
    free_log = λ i u n k x e more e1. all_join (λ (i : ℕ) (u : V). u.marked ≡ true → u.number ≡ Some n → u.splits ≡ k + 1 → get_elem? r.log x ≡ some e → e.number ≡ n ++ k ∷ more → ⊥) vs w
        (λ m1 _ _ _ _. let wrong : true ≡ false = sym m1 ∙ c.plain in cc) (λ i u at. r.free_log i u n k x e more at) i u e1;
    counts_some = λ i u e1. all_join (λ (i : ℕ) (u : V). u.marked ≡ true → 0 < u.splits) vs w (λ m1. absurd (let wrong : true ≡ false = sym m1 ∙ c.plain in cc)) r.counts_some i u e1;
    home = λ none. r.home (λ j u at. none j u (at_longer vs (w ∷ []) j u at));
  }
