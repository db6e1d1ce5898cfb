-- A stream of lines that a database numbers.
use Rattle.std.specs.Prelude.{◌≡◌, ◌⊎◌, ℕ, List, Option, Result, IfErr, IfOk, IsTrue, OnOk}
use Rattle.std.specs.Io.KnownBytes.{Keeps}
use Rattle.sqlite.specs.Effect.{Database}
use Rattle.sqlite.specs.State.{State, HasCleanDisk}
use Rattle.attributes.specs.Event.{EventValue}
use Rattle.inbox.specs.KeyOrder.{key_cmp}
use Rattle.inbox.specs.Ordered.{append_new}
use Rattle.inbox_table.specs.Calls.{IsSettled, joined}
use Rattle.inbox_table.specs.Rows.{IsInbox}
use Rattle.databases.specs.Held.{Holds}
use Rattle.numbers.specs.Numbered.{AreBare, HaveNumbers}
use Rattle.numbers.specs.Numberer.{IsEachOnce, number}
use Rattle.number_table.specs.Calls.{RejectsNumbers, from}
use Rattle.number_table.specs.Each.{AnswersEach, AreNumberedEach}
use Rattle.number_table.specs.declared.fault.NumbererFault.{NumbererFault}
use Rattle.number_lines.specs.Numbering.{NumbersAll, NumbersSome, NumbersUntil}
use Rattle.number_lines.specs.declared.named.NumberEnd.{NumberEnd}
use Rattle.number_lines.specs.declared.named.NumberEnd.TheVariants as end
use Rattle.number_lines.specs.declared.stream.NumberingFault.{NumberingFault}
use Rattle.number_lines.specs.declared.stream.NumberingFault.TheVariants as fault

-- the rows are those of a numberer with this base that has numbered these events
pub record IsNumberer (base : ℕ) (events rows : List EventValue) : Type 0 where
  pub bare : AreBare events
  pub once : IsEachOnce events
  pub numbers : HaveNumbers (number (from base) events) events rows

-- whatever rows the database held, they were a numberer's, the events of these lists were numbered
-- behind what it had numbered, and the new ones are rows behind them
abbrev pub NumbersInto : ℕ → Database → State → List (List EventValue) → List (List EventValue)
    → Type 0
NumbersInto base old new lists answers = HasCleanDisk new → IsTrue new.is_open
    → (rows : List EventValue) → Holds old rows → (events : List EventValue)
    × IsNumberer base events rows × AnswersEach (from base) events lists answers
    × IsInbox new.now (append_new key_cmp rows (joined answers))

-- the numberer couldn't be had: nothing was read and nothing written, and the database, where it is
-- open, has the rows that it had
pub record StaysUnnumbered (f : NumberingFault) (input input' out out' err err' : Option (List ℕ))
    (old new : State) : Type 0 where
  pub why : NumbererFault
  pub is : f ≡ fault.Numberer why
  pub unread : Keeps input input'
  pub unwritten : Keeps out out'
  pub unsaid : Keeps err err'
  pub rejects : RejectsNumbers old new why

-- lines of an input were numbered in a database, from one state to the other, and answered
pub record NumbersOver (aside : Option (List ℕ)) (base : ℕ) (input input' out out' err err' : Option (List ℕ))
    (outcome : Result ℕ NumberingFault) (old new : State) : Type 0 where
  pub all : IfOk outcome (λ faults.
      NumbersAll aside (NumbersInto base old.now new) faults input out out' err err')
  pub until : IfErr outcome (λ f.
      NumbersUntil aside (NumbersInto base old.now new) f input out out' err err'
      ⊎ StaysUnnumbered f input input' out out' err err' old new)
  -- a crash leaves them
  pub settled : HasCleanDisk new → OnOk outcome (IsSettled new)

-- what of the lines is numbered and answered where it ends so, whatever the files held: the
-- database wasn't opened, and nothing is; or the stream stopped
abbrev pub EndsSome : Option (List ℕ) → NumberEnd → Option (List ℕ) → Option (List ℕ) → Option (List ℕ)
    → Option (List ℕ) → Option (List ℕ) → Type 0
EndsSome aside (end.Database why) input out out' err err' =
    NumbersSome aside AreNumberedEach input out out' err err'
EndsSome aside (end.Stream why) input out out' err err' =
    NumbersUntil aside AreNumberedEach why input out out' err err'
