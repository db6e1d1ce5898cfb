-- Several lists of events that are numbered in one transaction.
use Rattle.std.specs.Prelude.{ℕ, List, [], ◌∷◌, Option, Result, IfOk, OnErr}
use Rattle.sqlite_trees.specs.Tree.{Trees}
use Rattle.sqlite.specs.State.{State, HasCleanDisk}
use Rattle.attributes.specs.Event.{EventValue}
use Rattle.inbox.specs.KeyOrder.{key_cmp}
use Rattle.inbox.specs.Ordered.{append_new}
use Rattle.inbox_table.specs.Calls.{MayTake, joined}
use Rattle.numbers.specs.Counts.{Counts}
use Rattle.numbers.specs.Numbered.{AreEachNumbered, HaveNumbers}
use Rattle.numbers.specs.Numberer.{number, taken}
use Rattle.number_table.specs.Calls.{StandsNumbered, from}
use Rattle.number_table.specs.declared.fault.NumbererFault.{NumbererFault}

-- the numberer's answer: the events of each list, with numbers among all that were numbered by then
abbrev pub AnswersEach : (List ℕ → ℕ) → List EventValue → List (List EventValue)
    → List (List EventValue) → Type 0
AnswersEach base events [] [] = Unit {0}
AnswersEach base events (L ∷ lists) (M ∷ answers) =
    HaveNumbers (number base (taken events L)) L M × AnswersEach base (taken events L) lists answers
AnswersEach base events _ _ = ⊥

-- a numberer's answer to lists: of each the events with some numbers
abbrev pub AreNumberedEach : List (List EventValue) → List (List EventValue) → Type 0
AreNumberedEach [] [] = Unit {0}
AreNumberedEach (L ∷ lists) (M ∷ answers) = AreEachNumbered L M × AreNumberedEach lists answers
AreNumberedEach _ _ = ⊥

-- what numbering the events of these lists does to the numberer over a table
pub record NumberEachEffect (base : ℕ) (lists : List (List EventValue)) (old new : State)
    (was is : Option Counts) (result : Result (List (List EventValue)) NumbererFault) : Type 0 where
  -- while the disk gives back what was written, each event is answered with its number, one list
  -- after the other; and the table has the new ones behind what there was
  pub numbers : HasCleanDisk new → (events rows : List EventValue)
      → StandsNumbered base events rows old was
      → IfOk result (λ answers. AnswersEach (from base) events lists answers
      × StandsNumbered base (taken events (joined lists)) (append_new key_cmp rows (joined answers)) new is)
  -- refused, it has numbered what it had
  pub refused : (events rows : List EventValue) → StandsNumbered base events rows old was
      → OnErr result (StandsNumbered base events rows new is)

-- these are the trees of a numberer's database that has taken the events of the lists with their
-- numbers, whatever was numbered before
pub record MayNumberEach (base : ℕ) (lists : List (List EventValue)) (was : Option Counts)
    (old : State) (trees : Trees) : Type 0 where
  pub answers : List (List EventValue)
  pub numbers : (events rows : List EventValue) → StandsNumbered base events rows old was
      → AnswersEach (from base) events lists answers
  pub takes : MayTake (joined answers) old.now trees
