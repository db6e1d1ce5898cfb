-- The rule of the table, which holds between any two steps. Word 0 counts the turns that ended,
-- word 1 the tickets that were drawn. The one slot has the object, or nothing while a pass has it.
use Rattle.std.specs.Prelude.{◌≡◌, ℕ, ◌+◌, ◌^◌, ◌<◌, ◌≤◌, true, false, List, ◌∷◌, ◌++◌, length, slice_index, Option, Some, None}
use mathlib.Core.Option.{some}
use lib.ListN.{get_elem?}
use Rattle.atomic_table.specs.Table.{State}
use Rattle.turn_lock.specs.declared.machine.Entry.{Entry}
use Rattle.turn_lock.specs.declared.machine.View.{View}
use Rattle.turn_lock.specs.History.{made_by, StartsWith, GoesOnBelow, after, IsLegal}

module _ {A C : Type 0} where
  -- what is so of one view, where the object opened with the state `opening`, the history is log
  -- and `drawn` tickets were drawn
  pub record Knows (log : List (Entry C)) (opening : A) (drawn : ℕ) (v : View A C) : Type 0 where
    -- what it has seen, and was told, begins the history
    pub starts : StartsWith log v.seen
    pub told : StartsWith log v.told
    pub opens : (n : List ℕ) → v.number ≡ Some n → v.opening ≡ opening
    -- the entries under its number are its own calls, and it has seen them all
    pub own : (n : List ℕ) → v.number ≡ Some n → made_by n log ≡ v.mine
    pub heard : (n : List ℕ) → v.number ≡ Some n → made_by n v.seen ≡ v.mine
    -- a note has no ticket
    pub nameless : v.number ≡ None → v.ticket ≡ None
    -- a ticket is of a turn that didn't end, and was drawn
    pub waits : (t : ℕ) → v.ticket ≡ Some t → (length log ≤ t) × (t < drawn)
    -- who has the turn has the ticket of that turn, and has seen all
    pub turn : v.has_turn ≡ true → (v.ticket ≡ Some (length log)) × (v.seen ≡ log)

  -- no two of the views have one and the same
  abbrev pub IsOfOne : {X : Type 0} → (View A C → Option X) → List (View A C) → Type 0
  IsOfOne {X} part views = (i j : ℕ) (v w : View A C) (x : X) → get_elem? views i ≡ some v
      → get_elem? views j ≡ some w → part v ≡ Some x → part w ≡ Some x → i ≡ j

  -- one of the views has the ticket t
  abbrev pub IsHeld : ℕ → List (View A C) → Type 0
  IsHeld t views =
      (j : ℕ) × (v : View A C) × (get_elem? views j ≡ some v) × (v.ticket ≡ Some t)

  -- a number of a view that goes on from a view's does so below that view's splits
  abbrev pub AreBelow : List (View A C) → Type 0
  AreBelow views = (i j : ℕ) (v w : View A C) (n : List ℕ) (k : ℕ) (more : List ℕ)
      → get_elem? views i ≡ some v → get_elem? views j ≡ some w
      → v.number ≡ Some n → w.number ≡ Some (n ++ k ∷ more) → k < v.splits

  -- so does a number in the history
  abbrev pub IsBelow : List (View A C) → List (Entry C) → Type 0
  IsBelow views log = (i : ℕ) (v : View A C) (n : List ℕ) → get_elem? views i ≡ some v
      → v.number ≡ Some n → GoesOnBelow n v.splits log

  -- while a view marks a split, no view has the number that it counted last or one that goes on
  abbrev pub AreFree : List (View A C) → Type 0
  AreFree views = (i j : ℕ) (v w : View A C) (n : List ℕ) (k : ℕ) (more : List ℕ)
      → get_elem? views i ≡ some v → get_elem? views j ≡ some w → v.marked ≡ true
      → v.number ≡ Some n → v.splits ≡ k + 1 → w.number ≡ Some (n ++ k ∷ more) → ⊥

  -- nor has an entry of the history
  abbrev pub IsFree : List (View A C) → List (Entry C) → Type 0
  IsFree views log =
      (i : ℕ) (v : View A C) (n : List ℕ) (k x : ℕ) (e : Entry C) (more : List ℕ)
      → get_elem? views i ≡ some v → v.marked ≡ true → v.number ≡ Some n → v.splits ≡ k + 1
      → get_elem? log x ≡ some e → e.number ≡ n ++ k ∷ more → ⊥

  -- none of the views has the turn
  abbrev pub IsNobodys : List (View A C) → Type 0
  IsNobodys views = (j : ℕ) (v : View A C) → get_elem? views j ≡ some v → v.has_turn ≡ false

module _ {O A C : Type 0} (state : O → A) (next : A → C → A) (fits : A → C → Type 0) where
  -- the object is at home, and its state is a
  abbrev pub IsHome : State (Option O) (View A C) → A → Type 0
  IsHome s a = (o : O) × (get_elem? s.homes 0 ≡ some (some (Some o))) × (state o ≡ a)

  -- how the table stands, where the object opened with the state `opening`
  pub record Turns (opening : A) (s : State (Option O) (View A C)) : Type 0 where
    -- the history, one entry for each turn that ended
    pub log : List (Entry C)
    -- the words
    pub two : length s.words ≡ 2
    pub ended : slice_index s.words 0 ≡ length log
    pub drawn : length log ≤ slice_index s.words 1
    pub few : slice_index s.words 1 ≤ 2 ^ 62
    -- the history is one of an object used by one thread
    pub legal : IsLegal next fits opening log
    -- the views
    pub each : (j : ℕ) (v : View A C) → get_elem? s.views j ≡ some v
        → Knows log opening (slice_index s.words 1) v
    pub one_number : IsOfOne (λ v. v.number) s.views
    -- the tickets that are out are word 0 up to word 1, each once
    pub one_ticket : IsOfOne (λ v. v.ticket) s.views
    pub all_tickets : (t : ℕ) → length log ≤ t → t < slice_index s.words 1 → IsHeld t s.views
    -- the numbers
    pub below_views : AreBelow s.views
    pub below_log : IsBelow s.views log
    pub free_views : AreFree s.views
    pub free_log : IsFree s.views log
    pub counts_some : (i : ℕ) (v : View A C) → get_elem? s.views i ≡ some v
        → v.marked ≡ true → 0 < v.splits
    -- while nobody has the turn, the object is at home and stands for the history
    pub home : IsNobodys s.views → IsHome s (after next opening log)
