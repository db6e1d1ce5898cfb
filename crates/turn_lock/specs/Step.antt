-- What each kind of step tells the pass that makes it.
use Rattle.std.specs.Prelude.{◌≡◌, ◌≢◌, ℕ, ◌≤◌, List, ◌∷◌, ◌++◌, length, Option, Some}
use Rattle.atomic_table.specs.Table.{Me, Step, rest}
use Rattle.turn_lock.specs.declared.machine.Entry.{Entry}
use Rattle.turn_lock.specs.declared.machine.View.{View}
use Rattle.turn_lock.specs.History.{made_by, StartsWith, GoesOnBelow, entry, after, IsLegal}
use Rattle.turn_lock.specs.View.{with_ticket, at_turn, ended_with, counted, noted}
use Rattle.turn_lock.specs.Turn.{Rests}

module _ {O A C : Type 0} (state : O → A) (next : A → C → A) (fits : A → C → Type 0) where
  -- a step from m, which found the number r, to m'
  abbrev pub Tells : Type 1
  Tells = Step (Option O) → Me (Option O) (View A C) → ℕ → Me (Option O) (View A C) → Type 0

  -- where word 1 was as expected, the pass has the ticket of that number
  abbrev pub draws : Tells
  draws st m r m' =
      (r ≡ st.first → m' ≡ (with_ticket r m.0, m.1)) × (r ≢ st.first → m' ≡ m)

  -- its turn has come: the object is out with it, and stands for all calls so far, of which the
  -- pass has now seen all; none of those that it hadn't seen is its own
  pub record Comes (m m' : Me (Option O) (View A C)) : Type 0 where
    pub object : O
    pub others : List (Entry C)
    pub becomes : m' ≡ (at_turn (m.0.seen ++ others) m.0, (0, Some object) ∷ m.1)
    pub stands : state object ≡ after next m.0.opening (m.0.seen ++ others)
    pub legal : IsLegal next fits m.0.opening (m.0.seen ++ others)
    pub own : (n : List ℕ) → m.0.number ≡ Some n → made_by n (m.0.seen ++ others) ≡ m.0.mine
    pub below : (n : List ℕ) → m.0.number ≡ Some n
        → GoesOnBelow n m.0.splits (m.0.seen ++ others)

  -- where word 0 is its ticket, its turn has come
  abbrev pub comes : Tells
  comes st m r m' = (m.0.ticket ≡ Some r → Comes m m') × (¬ (m.0.ticket ≡ Some r) → m' ≡ m)

  -- the call of the turn is noted
  abbrev pub pends : Option C → Tells
  pends said st m r m' = (c : C) → said ≡ Some c → m' ≡ (noted c m.0, m.1)

  -- the noted call joins the history, and the object is at home
  abbrev pub ends : Tells
  ends st m r m' = (n : List ℕ) (c : C) → m.0.number ≡ Some n → m.0.pending ≡ Some c
      → m' ≡ (ended_with (entry n c) m.0, rest m.1)

  -- a split is counted and marked
  abbrev pub marks_split : Tells
  marks_split st m r m' = m' ≡ (counted m.0, m.1)

  -- at least as many turns ended as the pass has seen
  abbrev pub sees_turns : Tells
  sees_turns st m r m' = (m' ≡ m) × (length m.0.seen ≤ r)

  -- the rule holds of what was seen, and of two histories that were joined the longer begins with
  -- the shorter
  abbrev pub learns : Tells
  learns st m r m' = (m' ≡ m) × (((n : List ℕ) × (m.0.number ≡ Some n)) → Rests state next fits m.0)
      × (length m.0.told ≤ length m.0.seen → StartsWith m.0.seen m.0.told)
