-- What the calls tell of a pass.
use Rattle.std.specs.Prelude.{◌≡◌, ◌⊎◌, ℕ, ◌+◌, true, false, List, [], ◌∷◌, ◌++◌, Option, Some, None}
use Rattle.atomic_table.specs.Table.{Me}
use Rattle.turn_lock.specs.declared.machine.Entry.{Entry}
use Rattle.turn_lock.specs.declared.machine.View.{View}
use Rattle.turn_lock.specs.History.{made_by, StartsWith, GoesOnBelow, entry, after, IsLegal}

module _ {A C : Type 0} where
  -- all but what was seen, what calls were made and how many passes were split off stays
  pub record IsSamePass (v w : View A C) : Type 0 where
    pub number : w.number ≡ v.number
    pub opening : w.opening ≡ v.opening

  -- the pass heard of calls of others, and of nothing else
  pub record Hears (v w : View A C) : Type 0 where
    pub others : List (Entry C)
    pub foreign : (n : List ℕ) → v.number ≡ Some n → made_by n others ≡ []
    pub seen : w.seen ≡ v.seen ++ others
    pub mine : w.mine ≡ v.mine
    pub splits : w.splits ≡ v.splits
    pub same : IsSamePass v w

  -- its call c joined the history
  pub record Adds (n : List ℕ) (c : C) (v w : View A C) : Type 0 where
    pub seen : w.seen ≡ v.seen ++ entry n c ∷ []
    pub mine : w.mine ≡ v.mine ++ entry n c ∷ []
    pub splits : w.splits ≡ v.splits
    pub same : IsSamePass v w

  -- it counts one more pass that was split off
  pub record CountsOne (v w : View A C) : Type 0 where
    pub seen : w.seen ≡ v.seen
    pub mine : w.mine ≡ v.mine
    pub splits : w.splits ≡ v.splits + 1
    pub same : IsSamePass v w

  -- the pass w was split off v: it has seen as much, and made no call
  pub record IsSplitOff (v w : View A C) : Type 0 where
    pub number : (n : List ℕ) → v.number ≡ Some n → w.number ≡ Some (n ++ v.splits ∷ [])
    pub splits : w.splits ≡ 0
    pub opening : w.opening ≡ v.opening
    pub seen : w.seen ≡ v.seen
    pub mine : w.mine ≡ []

  -- v became w when it met u: one has seen what the other has, and w has seen the longer
  pub record Meets (v u w : View A C) : Type 0 where
    pub longer : (w.seen ≡ v.seen) ⊎ (w.seen ≡ u.seen)
    pub all_mine : StartsWith w.seen v.seen
    pub all_others : StartsWith w.seen u.seen
    pub mine : w.mine ≡ v.mine
    pub splits : w.splits ≡ v.splits
    pub same : IsSamePass v w

module _ {O A C : Type 0} (state : O → A) (next : A → C → A) (fits : A → C → Type 0) where
  -- what the pass has seen is legal, has just its own calls under its number, and no number that
  -- the pass didn't give away
  pub record Rests (v : View A C) : Type 0 where
    pub legal : IsLegal next fits v.opening v.seen
    pub own : (n : List ℕ) → v.number ≡ Some n → made_by n v.seen ≡ v.mine
    pub below : (n : List ℕ) → v.number ≡ Some n → GoesOnBelow n v.splits v.seen

  -- the pass n waits for nothing and holds nothing
  pub record IsIdle (m : Me (Option O) (View A C)) : Type 0 where
    pub number : List ℕ
    pub named : m.0.number ≡ Some number
    pub ticket : m.0.ticket ≡ None
    pub no_turn : m.0.has_turn ≡ false
    pub empty : m.1 ≡ []
    pub rests : Rests m.0

  -- the pass has its turn, and the object came out with the state a, which stands for all that
  -- the pass has seen
  pub record HasTurn (m : Me (Option O) (View A C)) (a : A) : Type 0 where
    pub number : List ℕ
    pub named : m.0.number ≡ Some number
    pub turn : m.0.has_turn ≡ true
    pub holds : (y : Option O) × (m.1 ≡ (0, y) ∷ [])
    pub stands : a ≡ after next m.0.opening m.0.seen
    pub rests : Rests m.0

  -- the turn may end with the call c, the object being o then
  abbrev pub MayEnd : Me (Option O) (View A C) → O → C → Type 0
  MayEnd m o c = (a : A) × HasTurn m a × (state o ≡ next a c) × fits a c

  -- the call of the turn is noted and the object is back in the slot, in the state after that call
  pub record IsReady (m : Me (Option O) (View A C)) : Type 0 where
    pub number : List ℕ
    pub call : C
    pub object : O
    pub named : m.0.number ≡ Some number
    pub pending : m.0.pending ≡ Some call
    pub turn : m.0.has_turn ≡ true
    pub holds : m.1 ≡ (0, Some object) ∷ []
    pub becomes : state object ≡ next (after next m.0.opening m.0.seen) call
    pub fit : fits (after next m.0.opening m.0.seen) call

  -- in its last turn the pass heard of calls of others, and took the object out for good
  pub record Closes (v : View A C) (o : O) : Type 0 where
    pub last : View A C
    pub hears : Hears v last
    pub rests : Rests last
    pub stands : state o ≡ after next last.opening last.seen
