-- What a numberer has, and what its calls do.
use Rattle.std.specs.Prelude.{◌≡◌, ◌⊎◌, ⊤, ℕ, List, Option, Result, IfOk, IfSome, IsTrue, OnErr, OnOk}
use Rattle.sqlite_trees.specs.Tree.{Trees}
use Rattle.sqlite.specs.State.{State, HasCleanDisk}
use Rattle.std.specs.List.{AllByRecursion}
use Rattle.attributes.specs.Event.{EventValue}
use Rattle.attributes.specs.Fault.{IsEvent}
use Rattle.inbox.specs.KeyOrder.{key_cmp}
use Rattle.inbox.specs.Ordered.{append_new}
use Rattle.inbox_table.specs.Calls.{IsSettled, MayTake}
use Rattle.inbox_table.specs.Opening.{Opens, RejectsOpening}
use Rattle.inbox_table.specs.Rows.{IsInbox}
use Rattle.inbox_table.specs.declared.fault.TableFault.{TableFault}
use Rattle.numbers.specs.Counts.{Counts, IsCountOf}
use Rattle.numbers.specs.Numbered.{AreBare, HaveNumbers}
use Rattle.numbers.specs.Numberer.{IsEachOnce, number, taken}
use Rattle.number_table.specs.Fault.{IsOfReading, of_table}
use Rattle.number_table.specs.declared.fault.NumbererFault.{NumbererFault}
use Rattle.number_table.specs.declared.fault.NumbererFault.TheVariants.{Foreign}

-- the number that a numberer begins each source behind
abbrev pub from : ℕ → List ℕ → ℕ
from base source = base

-- the numberer has numbered these events, each text once, in this order, and its table has them
-- with their numbers as rows; what it counts, where it does, is of them
pub record StandsNumbered (base : ℕ) (events rows : List EventValue) (s : State) (counted : Option Counts)
    : Type 0 where
  pub bare : AreBare events
  pub once : IsEachOnce events
  pub numbers : HaveNumbers (number (from base) events) events rows
  pub whole : AllByRecursion IsEvent rows
  pub counts : IfSome counted (IsCountOf (from base) events)
  pub table : HasCleanDisk s → IsTrue s.is_open → IsInbox s.now rows

-- the numberer's answer: the events of L, each with its number among all that were numbered then
abbrev pub AnswersNumbers : ℕ → List EventValue → List EventValue → List EventValue → Type 0
AnswersNumbers base events L answers = HaveNumbers (number (from base) (taken events L)) L answers

-- what numbering the events of L does to the numberer over a table
pub record NumberEffect (base : ℕ) (L : List EventValue) (old new : State)
    (was is : Option Counts) (result : Result (List EventValue) NumbererFault) : Type 0 where
  -- while the disk gives back what was written, each event is answered with its number: the one that
  -- its text had, else its source's next; and the table has the new ones behind what there was
  pub numbers : HasCleanDisk new → (events rows : List EventValue)
      → StandsNumbered base events rows old was
      → IfOk result (λ answers. AnswersNumbers base events L answers
      × StandsNumbered base (taken events L) (append_new key_cmp rows answers) new is)
  -- refused, it has numbered what it had
  pub refused : (events rows : List EventValue) → StandsNumbered base events rows old was
      → OnErr result (StandsNumbered base events rows new is)

-- what numbering leaves in the database of a numberer, while the disk gives back what was written
pub record LeavesNumbers {T : Type 0} (old new : State) (result : Result T NumbererFault)
    : Type 0 where
  pub stays_open : OnOk result (IsTrue new.is_open)
  pub settled : OnOk result (IsSettled new)
  pub same : IsTrue new.is_open → OnErr result (new.now ≡ old.now)

-- these are the trees of a numberer's database that has taken the events of L with their numbers,
-- whatever was numbered before
pub record MayNumber (base : ℕ) (L : List EventValue) (was : Option Counts) (old : State)
    (trees : Trees) : Type 0 where
  pub answers : List EventValue
  pub numbers : (events rows : List EventValue) → StandsNumbered base events rows old was
      → AnswersNumbers base events L answers
  pub takes : MayTake answers old.now trees

-- no numberer with this base leaves these rows in its table
abbrev pub NoneLeaves : ℕ → List EventValue → Type 0
NoneLeaves base rows = (events : List EventValue) → AreBare events → IsEachOnce events
    → HaveNumbers (number (from base) events) events rows → ⊥

-- a numberer's opening is refused for this fault: as that of the table is; or this was opened, and
-- isn't a numberer's; or it was opened, and its rows couldn't be read, or memory ran out while they
-- were counted. Then it has the rows that it had, in the last case while the connection is open
abbrev pub RejectsNumbers : State → State → NumbererFault → Type 0
RejectsNumbers old new fault =
    ((given : TableFault) × (fault ≡ of_table given) × RejectsOpening old new given)
    ⊎ ((fault ≡ Foreign) × (HasCleanDisk new → (rows : List EventValue) × Opens (λ _ _. ⊤) old new rows))
    ⊎ (IsOfReading fault × (HasCleanDisk new → IsTrue new.is_open
    → (rows : List EventValue) × Opens (λ _ _. ⊤) old new rows))
