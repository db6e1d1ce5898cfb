-- Histories: the calls of all passes, in the order of their turns. The number of a pass is a list:
-- the first pass has the empty one, and the k-th that is split off a pass, counted from 0, has the
-- number of that pass followed by k.
use Rattle.std.specs.Prelude.{◌≡◌, ℕ, ◌<◌, Bool, true, false, ◌&&◌, eqb, cond, List, [], ◌∷◌, ◌++◌}
use mathlib.Core.Option.{some}
use lib.ListN.{get_elem?}
use Rattle.turn_lock.specs.declared.machine.Entry.{Entry}

-- two numbers of passes in a history of turns are the same
abbrev pub same_number : List ℕ → List ℕ → Bool
same_number [] [] = true
same_number [] (y ∷ ys) = false
same_number (x ∷ xs) [] = false
same_number (x ∷ xs) (y ∷ ys) = eqb x y && same_number xs ys

module _ {C : Type 0} where
  -- a call under the number of the pass that made it
  abbrev pub entry : List ℕ → C → Entry C
  entry n c = record { number = n; call = c }

  -- the entries under one number, in order
  abbrev pub made_by : List ℕ → List (Entry C) → List (Entry C)
  made_by n [] = []
  made_by n (e ∷ es) = cond (same_number e.number n) (e ∷ made_by n es) (made_by n es)

  -- the history begins with what was seen
  abbrev pub StartsWith : List (Entry C) → List (Entry C) → Type 0
  StartsWith log seen = (others : List (Entry C)) × (log ≡ seen ++ others)

  -- where the number of an entry goes on from n, its next member is below k
  abbrev pub GoesOnBelow : List ℕ → ℕ → List (Entry C) → Type 0
  GoesOnBelow n k log = (x : ℕ) (e : Entry C) (i : ℕ) (more : List ℕ)
      → get_elem? log x ≡ some e → e.number ≡ n ++ i ∷ more → i < k

-- the state of the object that threads use in turns, after all calls of a history
abbrev pub after : {A C : Type 0} → (A → C → A) → A → List (Entry C) → A
after next a [] = a
after next a (e ∷ es) = after next (next a e.call) es

-- the history is legal: each reply is the one that an object used by one thread gives there
abbrev pub IsLegal : {A C : Type 0} → (A → C → A) → (A → C → Type 0) → A → List (Entry C) → Type 0
IsLegal next fits a [] = Unit {0}
IsLegal next fits a (e ∷ es) = fits a e.call × IsLegal next fits (next a e.call) es
