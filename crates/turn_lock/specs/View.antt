-- What steps make of the view of a pass.
use Rattle.std.specs.Prelude.{ℕ, ◌+◌, ◌-◌, true, false, cond, leb, List, [], ◌∷◌, ◌++◌, length, Option, Some, None}
use Rattle.turn_lock.specs.declared.machine.Entry.{Entry}
use Rattle.turn_lock.specs.declared.machine.View.{View}

-- the number of the k-th pass that is split off a pass of an object used in turns
abbrev pub child : Option (List ℕ) → ℕ → Option (List ℕ)
child None k = None
child (Some n) k = Some (n ++ k ∷ [])

-- of two histories of an object used in turns the longer, and the shorter
abbrev pub longer : {C : Type 0} → List (Entry C) → List (Entry C) → List (Entry C)
longer a b = cond (leb (length a) (length b)) b a

abbrev pub shorter : {C : Type 0} → List (Entry C) → List (Entry C) → List (Entry C)
shorter a b = cond (leb (length a) (length b)) a b

module _ {A C : Type 0} where
  -- a view that waits for nothing and has made no call
  abbrev pub fresh_view : Option (List ℕ) → A → List (Entry C) → View A C
  fresh_view n opening seen = record {
    number = n;
    splits = 0;
    opening = opening;
    seen = seen;
    mine = [];
    told = [];
    ticket = None;
    has_turn = false;
    pending = None;
    marked = false;
  }

  -- the first pass
  abbrev pub newcomer : List ℕ → A → List (Entry C) → View A C
  newcomer n = fresh_view (Some n)

  abbrev pub with_ticket : ℕ → View A C → View A C
  with_ticket t v = record v { ticket = Some t }

  abbrev pub at_turn : List (Entry C) → View A C → View A C
  at_turn seen v = record v { seen = seen; has_turn = true }

  -- its call is noted before the object goes back
  abbrev pub noted : C → View A C → View A C
  noted c v = record v { pending = Some c }

  abbrev pub ended_with : Entry C → View A C → View A C
  ended_with e v = record v {
    seen = v.seen ++ e ∷ [];
    mine = v.mine ++ e ∷ [];
    ticket = None;
    has_turn = false;
    pending = None;
    marked = false;
  }

  -- a split is counted, and its number is marked until the new pass has it
  abbrev pub counted : View A C → View A C
  counted v = record v { splits = v.splits + 1; marked = true }

  abbrev pub unmarked : View A C → View A C
  unmarked v = record v { marked = false }

  -- the new pass, with the number that was counted last
  abbrev pub born : View A C → View A C
  born v = fresh_view (child v.number (v.splits - 1)) v.opening v.seen

  -- a note of what was seen
  abbrev pub note : View A C → View A C
  note v = fresh_view None v.opening v.seen

  -- a note that was joined
  abbrev pub spent : A → View A C
  spent a = fresh_view None a []

  abbrev pub joined : View A C → View A C → View A C
  joined v w = record v { seen = longer v.seen w.seen; told = shorter v.seen w.seen }
