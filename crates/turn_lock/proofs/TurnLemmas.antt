-- From the steps of a turn to what the calls tell.
use Rattle.std.proofs.Common.{◌≡◌, ℕ, ◌+◌, ◌-◌, ◌<◌, ◌≤◌, Bool, true, false, cond, leb, List, [], ◌∷◌, ◌++◌, length, sym, refl, ap, ◌∙◌, subst, ◌⊎◌, inl, inr, ⊎_elim, arith, append_assoc}
use Rattle.std.proofs.lemmas.Bool.Decides.{leb_tells}
use Rattle.std.specs.Prelude.{Option, Some, None}
use mathlib.Core.Option.{some}
use lib.ListN.{get_elem?}
use Rattle.atomic_table.specs.Table.{Me, rest}
use Rattle.atomic_table.proofs.Lists.{at_snoc}
use Rattle.turn_lock.specs.declared.machine.Entry.{Entry}
use Rattle.turn_lock.specs.declared.machine.View.{View}
use Rattle.turn_lock.specs.History.{made_by, StartsWith, entry, IsLegal}
use Rattle.turn_lock.specs.View.{child, longer, shorter, newcomer, unmarked, noted, with_ticket, at_turn, ended_with, counted, born, note, joined}
use Rattle.turn_lock.specs.Turn.{Hears, Adds, CountsOne, IsSplitOff, Meets, Rests, IsIdle, HasTurn, MayEnd, IsReady}
use Rattle.turn_lock.specs.Step.{Comes}
use Rattle.turn_lock.proofs.HistoryLemmas.{nothing, made_by-append, made_by-one, made_by-none, starts_same, legal-append}
use Rattle.turn_lock.proofs.RuleLemmas.{no_loop}

-- what two passes have seen: the longer begins with both
longest : {C : Type 0} (a b : List (Entry C)) → (length (shorter a b) ≤ length (longer a b) → StartsWith (longer a b) (shorter a b))
    → ((longer a b ≡ a) ⊎ (longer a b ≡ b)) × StartsWith (longer a b) a × StartsWith (longer a b) b
longest {C} a b h = let P : List (Entry C) → List (Entry C) → Type 0 = λ l s. (length s ≤ length l → StartsWith l s) → ((l ≡ a) ⊎ (l ≡ b)) × StartsWith l a × StartsWith l b in
    let Q : Bool → Type 0 = λ t. P (cond t b a) (cond t a b) in
    ⊎_elim (λ (t : (leb (length a) (length b) ≡ true) × (length a ≤ length b)). let q : Q (leb (length a) (length b)) = subst Q (sym t.0) (λ f. (inr refl, f t.1, starts_same b)) in q h)
    (λ (t : (leb (length a) (length b) ≡ false) × (length b < length a)). let g : length b < length a = t.1 in let q : Q (leb (length a) (length b)) = subst Q (sym t.0) (λ f. (inl refl, starts_same a, f (let k : length b ≤ length a = omega arith in k))) in q h)
    (leb_tells (length a) (length b))

module _ {O A C : Type 0} (state : O → A) (next : A → C → A) (fits : A → C → Type 0) where
  abbrev V : Type 0
  V = View A C

  abbrev M : Type 0
  M = Me (Option O) V

  pub opens_idle : (a : A) (m : M) → m ≡ (newcomer [] a [], []) → IsIdle state next fits m
  opens_idle a m is = subst (λ (z : M). IsIdle state next fits z) (sym is) record {
    number = [];
    named = refl;
    ticket = refl;
    no_turn = refl;
    empty = refl;
    rests = record { legal = tt; own = λ _ _. refl; below = λ n h x e i more at num. absurd (cc) };
  }

  pub holds_it : (m m' : M) → Comes state next fits m m' → (x : Option O) × (m'.1 ≡ (0, x) ∷ rest m'.1)
  holds_it m m' come = let e : m'.1 ≡ (0, Some come.object) ∷ m.1 = ap (λ (z : M). z.1) come.becomes in (Some come.object, e ∙ ap (λ l. (0, Some come.object) ∷ l) (sym (ap (λ (l : List (ℕ × Option O)). rest l) e)))

  abbrev front : Option O → List (ℕ × Option O) → Option O
  front x [] = x
  front x (z ∷ zs) = z.1

  same_front : (x y : Option O) (l l' : List (ℕ × Option O)) → (0, x) ∷ l ≡ (0, y) ∷ l' → x ≡ y
  same_front x y l l' e = let F : List (ℕ × Option O) → Option O = λ z. front x z in ap F e

  -- it holds the object itself
  pub holds_some : (m m' : M) (r : Option O) → Comes state next fits m m' → m'.1 ≡ (0, r) ∷ rest m'.1 → (o : O) × (r ≡ Some o)
  holds_some m m' r come is = let e : (0, r) ∷ rest m'.1 ≡ (0, Some come.object) ∷ m.1 = sym is ∙ ap (λ (z : M). z.1) come.becomes in (come.object, same_front r (Some come.object) (rest m'.1) m.1 e)

  -- what a pass that was idle has, once the object came out
  pub record IsIn (m m' : M) (o : O) : Type 0 where
    pub turn : HasTurn state next fits m' (state o)
    pub hears : Hears m.0 m'.0

  pub entered : (m m1 m2 m3 : M) (t : ℕ) (o : O) → IsIdle state next fits m → m1 ≡ (with_ticket t m.0, m.1) → Comes state next fits m1 m2 → m2.1 ≡ (0, Some o) ∷ rest m2.1 → m3 ≡ (m2.0, (0, None) ∷ rest m2.1) → IsIn m m3 o
  entered m m1 m2 m3 t o idle drawn come held out =
      let v : V = m.0 in
      let c : Comes state next fits (with_ticket t v, m.1) m2 = subst (λ (z : M). Comes state next fits z m2) drawn come in
      let e : m2.1 ≡ (0, Some c.object) ∷ m.1 = ap (λ (z : M). z.1) c.becomes in let f : (0, Some o) ∷ rest m2.1 ≡ (0, Some c.object) ∷ m.1 = sym held ∙ e in
      let same_some : Some o ≡ Some c.object = same_front (Some o) (Some c.object) (rest m2.1) m.1 f in let same : o ≡ c.object = cc in
      let gone : rest m2.1 ≡ [] = ap (λ (l : List (ℕ × Option O)). rest l) e ∙ idle.empty in
      let mid : V = at_turn (v.seen ++ c.others) (with_ticket t v) in
      let becomes : m3 ≡ (mid, (0, None) ∷ []) = out ∙ (λ i. ((c.becomes i).0, (0, None) ∷ gone i)) in
      subst (λ (z : M). IsIn m z o) (sym becomes) record {
        turn = record {
          number = idle.number;
          named = idle.named;
          turn = refl;
          holds = (None, refl);
          stands = ap state same ∙ c.stands;
          rests = record { legal = c.legal; own = c.own; below = c.below };
        };
        hears = record {
          others = c.others;
          foreign = λ n h. nothing (made_by n v.seen) (made_by n c.others) (sym (made_by-append n v.seen c.others) ∙ (c.own n h ∙ sym (idle.rests.own n h)));
          seen = refl;
          mine = refl;
          splits = refl;
          same = record { number = refl; opening = refl };
        };
      }

  pub holds_slot : (m m1 : M) (o : O) (c : C) → MayEnd state next fits m o c → m1 ≡ (noted c m.0, m.1) → (x : Option O) × (m1.1 ≡ (0, x) ∷ rest m1.1)
  holds_slot m m1 o c may is = let h = may.1.holds in let e : m1.1 ≡ (0, h.0) ∷ [] = ap (λ (z : M). z.1) is ∙ h.1 in (h.0, e ∙ ap (λ l. (0, h.0) ∷ l) (sym (ap (λ (l : List (ℕ × Option O)). rest l) e)))

  -- once its call is noted and the object is back, the turn may end
  pub is_ready : (m m1 m2 : M) (o : O) (c : C) → MayEnd state next fits m o c → m1 ≡ (noted c m.0, m.1) → m2 ≡ (m1.0, (0, Some o) ∷ rest m1.1) → IsReady state next fits m2
  is_ready m m1 m2 o c may first second = let turn = may.1 in
      let gone : rest m1.1 ≡ [] = ap (λ (l : List (ℕ × Option O)). rest l) (ap (λ (z : M). z.1) first ∙ turn.holds.1) in
      let becomes : m2 ≡ (noted c m.0, (0, Some o) ∷ []) = second ∙ (λ i. ((first i).0, (0, Some o) ∷ gone i)) in
      subst (λ (z : M). IsReady state next fits z) (sym becomes) record {
        number = turn.number;
        call = c;
        object = o;
        named = turn.named;
        pending = refl;
        turn = turn.turn;
        holds = refl;
        becomes = may.2 ∙ ap (λ (z : A). next z c) turn.stands;
        fit = subst (λ (z : A). fits z c) turn.stands may.3;
      }

  -- what a pass that had its turn has, once the turn ended with the call c
  pub record IsOut (c : C) (m m' : M) : Type 0 where
    pub idle : IsIdle state next fits m'
    pub adds : (n : List ℕ) → m.0.number ≡ Some n → Adds n c m.0 m'.0

  pub left : (m m1 m2 m3 : M) (o : O) (c : C) → MayEnd state next fits m o c → m1 ≡ (noted c m.0, m.1) → m2 ≡ (m1.0, (0, Some o) ∷ rest m1.1)
      → ((n : List ℕ) (d : C) → m2.0.number ≡ Some n → m2.0.pending ≡ Some d → m3 ≡ (ended_with (entry n d) m2.0, [])) → IsOut c m m3
  left m m1 m2 m3 o c may noting back out = let v : V = m.0 in let turn = may.1 in let n : List ℕ = turn.number in let e : Entry C = entry n c in
      let first : m2.0 ≡ noted c v = ap (λ (z : M). z.0) back ∙ ap (λ (z : M). z.0) noting in
      let last : m3 ≡ (ended_with e (noted c v), []) = out n c (ap (λ (z : V). z.number) first ∙ turn.named) (ap (λ (z : V). z.pending) first) ∙ (λ i. (ended_with e (first i), [])) in
      let legal : IsLegal next fits v.opening (v.seen ++ e ∷ []) = legal-append next fits v.opening v.seen (e ∷ []) turn.rests.legal (subst (λ (z : A). fits z c) turn.stands may.3, tt) in
      let same_n : (k : List ℕ) → v.number ≡ Some k → n ≡ k = (λ k h. let z : Some n ≡ Some k = sym turn.named ∙ h in cc) in
      subst (λ (z : M). IsOut c m z) (sym last) record {
        idle = record {
          number = n;
          named = turn.named;
          ticket = refl;
          no_turn = refl;
          empty = refl;
          rests = record {
            legal = legal;
            own = λ k h. made_by-append k v.seen (e ∷ []) ∙ (ap (λ l. l ++ made_by k (e ∷ [])) (turn.rests.own k h) ∙ ap (λ l. v.mine ++ l) (ap (λ z. made_by z (e ∷ [])) (sym (same_n k h)) ∙ made_by-one n c));
            below = λ k h x d i more at is. ⊎_elim (λ (p : get_elem? v.seen x ≡ some d). turn.rests.below k h x d i more p is)
                (λ (p : e ≡ d). absurd (no_loop n i more (ap (λ (z : Entry C). z.number) p ∙ (is ∙ ap (λ (z : List ℕ). z ++ i ∷ more) (sym (same_n k h)))))) (at_snoc v.seen e d x at);
          };
        };
        adds = λ k h. let same = same_n k h in record {
          seen = ap (λ (z : List ℕ). v.seen ++ entry z c ∷ []) same;
          mine = ap (λ (z : List ℕ). v.mine ++ entry z c ∷ []) same;
          splits = refl;
          same = record { number = refl; opening = refl };
        };
      }

  -- what two passes are, once one was split off the other
  pub record AreTwo (m m' b : M) : Type 0 where
    pub old : IsIdle state next fits m'
    pub counts : CountsOne m.0 m'.0
    pub new : IsIdle state next fits b
    pub off : IsSplitOff m.0 b.0

  in_two : (m m' b : M) → IsIdle state next fits m → m' ≡ (unmarked (counted m.0), m.1) → b ≡ (born (counted m.0), []) → AreTwo m m' b
  in_two m m' b idle first second = let v : V = m.0 in let n : List ℕ = idle.number in let q : ℕ = v.splits in let r = idle.rests in
      let last : q + 1 - 1 ≡ q = omega arith in
      let birth : (k : List ℕ) → v.number ≡ Some k → (born (counted v)).number ≡ Some (k ++ q ∷ []) = (λ k h. ap (λ (z : ℕ). child v.number z) last ∙ ap (λ (z : Option (List ℕ)). child z q) h) in
      let unused : (x : ℕ) (e : Entry C) (more : List ℕ) → get_elem? v.seen x ≡ some e → e.number ≡ n ++ q ∷ more → ⊥ = (λ x e more is num. let g : q < q = r.below n idle.named x e q more is num in omega arith) in
      let is_b : (m : List ℕ) → (born (counted v)).number ≡ Some m → m ≡ n ++ q ∷ [] = (λ m h. let z : Some m ≡ Some (n ++ q ∷ []) = sym h ∙ birth n idle.named in cc) in
      subst (λ (z : M × M). AreTwo m z.0 z.1) (λ i. (sym first i, sym second i)) record {
        old = record {
          number = n;
          named = idle.named;
          ticket = idle.ticket;
          no_turn = idle.no_turn;
          empty = idle.empty;
          rests = record { legal = r.legal; own = r.own; below = λ n h x e i more is num. let g : i < v.splits = r.below n h x e i more is num in omega arith };
        };
        counts = record { seen = refl; mine = refl; splits = refl; same = record { number = refl; opening = refl } };
        new = record {
          number = n ++ q ∷ [];
          named = birth n idle.named;
          ticket = refl;
          no_turn = refl;
          empty = refl;
          rests = record {
            legal = r.legal;
            own = λ m h. made_by-none m v.seen (λ x e is num. unused x e [] is (num ∙ is_b m h));
            below = λ m h x e i more is num. absurd (unused x e (i ∷ more) is (num ∙ (ap (λ (l : List ℕ). l ++ i ∷ more) (is_b m h) ∙ append_assoc n (q ∷ []) (i ∷ more))));
          };
        };
        off = record { number = birth; splits = refl; opening = refl; seen = refl; mine = refl };
      }

  pub split_in_two : (m m1 m' b : M) → IsIdle state next fits m → m1 ≡ (counted m.0, m.1) → m' ≡ (unmarked m1.0, m1.1) → b ≡ (born m1.0, []) → AreTwo m m' b
  split_in_two m m1 m' b idle mark first second = in_two m m' b idle (first ∙ (λ i. (unmarked (mark i).0, (mark i).1))) (second ∙ (λ i. (born (mark i).0, [])))

  -- what a pass is, once it met another
  pub record HasMet (m : M) (u : V) (m' : M) : Type 0 where
    pub idle : IsIdle state next fits m'
    pub meets : Meets m.0 u m'.0

  met_note : (m m1 : M) (u : V) → IsIdle state next fits m → m1 ≡ (joined m.0 (note u), m.1) → Rests state next fits m1.0 → (length m1.0.told ≤ length m1.0.seen → StartsWith m1.0.seen m1.0.told) → HasMet m u m1
  met_note m m1 u idle is = subst (λ (z : M). Rests state next fits z.0 → (length z.0.told ≤ length z.0.seen → StartsWith z.0.seen z.0.told) → HasMet m u z) (sym is)
      (λ rests begins. let l = longest m.0.seen u.seen begins in record {
        idle = record { number = idle.number; named = idle.named; ticket = idle.ticket; no_turn = idle.no_turn; empty = idle.empty; rests = rests };
        meets = record { longer = l.0; all_mine = l.1; all_others = l.2; mine = refl; splits = refl; same = record { number = refl; opening = refl } };
      })

  pub met : (m m1 m2 : M) (u w : V) → IsIdle state next fits m → w ≡ note u → m1 ≡ (joined m.0 w, m.1) → m2 ≡ m1 → (((n : List ℕ) × (m1.0.number ≡ Some n)) → Rests state next fits m1.0)
      → (length m1.0.told ≤ length m1.0.seen → StartsWith m1.0.seen m1.0.told) → HasMet m u m2
  met m m1 m2 u w idle noting first last rests begins = let is : m1 ≡ (joined m.0 (note u), m.1) = first ∙ (λ i. (joined m.0 (noting i), m.1)) in
      subst (HasMet m u) (sym last) (met_note m m1 u idle is (rests (idle.number, ap (λ (z : M). z.0.number) is ∙ idle.named)) begins)
