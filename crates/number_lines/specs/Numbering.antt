-- Lines of an input, numbered and answered.
use Rattle.std.specs.Prelude.{◌≡◌, ◌⊎◌, ℕ, List, [], length, Option}
use Rattle.std.specs.Io.KnownBytes.{Appends, IsAtEnd, Keeps}
use Rattle.sqlite.specs.State.{State, HasCleanDisk}
use Rattle.attributes.specs.Event.{EventValue}
use Rattle.inbox.specs.KeyOrder.{key_cmp}
use Rattle.inbox.specs.Ordered.{append_new}
use Rattle.inbox_table.specs.Calls.{joined}
use Rattle.line_intake.specs.Judged.{TakesLines}
use Rattle.line_intake.specs.Written.{Wrote}
use Rattle.numbers.specs.Counts.{Counts}
use Rattle.numbers.specs.Numberer.{taken}
use Rattle.number_table.specs.Calls.{StandsNumbered, from}
use Rattle.number_table.specs.Each.{AnswersEach, AreNumberedEach}
use Rattle.number_table.specs.declared.fault.NumbererFault.TheVariants.{OutOfMemory}
use Rattle.number_lines.specs.Judged.{AreJudgedToNumber, refusals_in}
use Rattle.number_lines.specs.Texts.{fault_text, numbered_text}
use Rattle.number_lines.specs.declared.refusal.Told.{Told}
use Rattle.number_lines.specs.declared.stream.NumberingFault.{NumberingFault}
use Rattle.number_lines.specs.declared.stream.NumberingFault.TheVariants as fault

-- from one state of a numberer to the other the events of these lists were numbered, and these are
-- they with their numbers, while the numberer stands and the disk gives back what was written
pub record Numbers (base : ℕ) (lists answers : List (List EventValue)) (old new : State)
    (was is : Option Counts) : Type 0 where
  pub one_each : length answers ≡ length lists
  pub each : AreNumberedEach lists answers
  pub clean : HasCleanDisk new → HasCleanDisk old
  pub numbers : HasCleanDisk new → (events rows : List EventValue)
      → StandsNumbered base events rows old was
      → AnswersEach (from base) events lists answers
      × StandsNumbered base (taken events (joined lists)) (append_new key_cmp rows (joined answers)) new is

-- ---- one turn

-- the events of lines were numbered, then they were written, and why lines are refused
pub record NumbersTurn (base : ℕ) (tells : List Told) (lists : List (List EventValue))
    (old new : State) (was is : Option Counts) (out out' err err' : Option (List ℕ)) : Type 0 where
  pub answers : List (List EventValue)
  pub numbers : Numbers base lists answers old new was is
  pub written : Appends out out' (numbered_text tells answers)
  pub said : Appends err err' (fault_text tells)

-- events of lines were numbered, and of both texts only fronts were written, perhaps
pub record NumbersUnwritten (base : ℕ) (tells : List Told) (lists : List (List EventValue))
    (old new : State) (was is : Option Counts) (out out' err err' : Option (List ℕ)) : Type 0 where
  pub answers : List (List EventValue)
  pub numbers : Numbers base lists answers old new was is
  pub rest : List ℕ
  pub written : Wrote out out' (numbered_text tells answers) rest
  pub unsaid : List ℕ
  pub said : Wrote err err' (fault_text tells) unsaid

-- why a turn that numbers lines stops, and what it leaves. The numberer refused it: nothing was
-- written or numbered; or, where memory for the texts is wanted, the events are. Or a write failed
abbrev pub StopsNumbering : NumberingFault → ℕ → List Told → List (List EventValue) → State → State
    → Option Counts → Option Counts → Option (List ℕ) → Option (List ℕ) → Option (List ℕ)
    → Option (List ℕ) → Type 0
StopsNumbering (fault.Input why) base tells lists old new was is out out' err err' = ⊥
StopsNumbering (fault.Numberer why) base tells lists old new was is out out' err err' =
    (Numbers base [] [] old new was is × Keeps out out' × Keeps err err')
    ⊎ ((why ≡ OutOfMemory)
    × NumbersUnwritten base tells lists old new was is out out' err err')
StopsNumbering fault.Unwritten base tells lists old new was is out out' err err' =
    NumbersUnwritten base tells lists old new was is out out' err err'

-- ---- a stream, whatever is said of the numbers

-- the input lost lines, from its first on; each but the empty ones is told with its events, and the
-- events of each with an answer, which are as N says
pub record AreLinesNumbered (aside : Option (List ℕ))
    (N : List (List EventValue) → List (List EventValue) → Type 0) (input left : Option (List ℕ))
    (tells : List Told) (answers : List (List EventValue)) : Type 0 where
  pub lines : List (List ℕ)
  pub lists : List (List EventValue)
  pub taken : TakesLines input lines left
  pub judged : AreJudgedToNumber aside 0 lines tells lists
  pub one_each : length answers ≡ length lists
  pub numbers : N lists answers

-- some of the input's lines, from the first on, were numbered, and each is answered
pub record NumbersSome (aside : Option (List ℕ))
    (N : List (List EventValue) → List (List EventValue) → Type 0)
    (input out out' err err' : Option (List ℕ)) : Type 0 where
  pub left : Option (List ℕ)
  pub tells : List Told
  pub answers : List (List EventValue)
  pub are : AreLinesNumbered aside N input left tells answers
  pub written : Appends out out' (numbered_text tells answers)
  pub said : Appends err err' (fault_text tells)

-- lines were numbered and answered but for the rests of the texts, which weren't written
pub record NumbersRest (aside : Option (List ℕ))
    (N : List (List EventValue) → List (List EventValue) → Type 0)
    (input out out' err err' : Option (List ℕ)) : Type 0 where
  pub left : Option (List ℕ)
  pub tells : List Told
  pub answers : List (List EventValue)
  pub are : AreLinesNumbered aside N input left tells answers
  pub rest : List ℕ
  pub written : Wrote out out' (numbered_text tells answers) rest
  pub unsaid : List ℕ
  pub said : Wrote err err' (fault_text tells) unsaid

-- all lines of the input, to its end, were numbered and answered, and so many are refused
pub record NumbersAll (aside : Option (List ℕ))
    (N : List (List EventValue) → List (List EventValue) → Type 0) (faults : ℕ) (input out out' err err' : Option (List ℕ)) : Type 0 where
  pub left : Option (List ℕ)
  pub over : IsAtEnd left
  pub tells : List Told
  pub answers : List (List EventValue)
  pub are : AreLinesNumbered aside N input left tells answers
  pub written : Appends out out' (numbered_text tells answers)
  pub said : Appends err err' (fault_text tells)
  pub faulty : faults ≡ refusals_in tells

-- what of the lines is numbered and answered where the stream ends for this fault
abbrev pub NumbersUntil : Option (List ℕ)
    → (List (List EventValue) → List (List EventValue) → Type 0)
    → NumberingFault → Option (List ℕ) → Option (List ℕ) → Option (List ℕ) → Option (List ℕ)
    → Option (List ℕ) → Type 0
NumbersUntil aside N (fault.Input why) input out out' err err' = NumbersSome aside N input out out' err err'
NumbersUntil aside N (fault.Numberer why) input out out' err err' =
    NumbersSome aside N input out out' err err'
    ⊎ ((why ≡ OutOfMemory) × NumbersRest aside N input out out' err err')
NumbersUntil aside N fault.Unwritten input out out' err err' = NumbersRest aside N input out out' err err'
