-- What is acknowledged of an input, whatever becomes of the database.
use Rattle.std.specs.Prelude.{◌≡◌, ℕ, List, length, Option}
use Rattle.std.specs.Io.KnownBytes.{Appends, IsAtEnd}
use Rattle.attributes.specs.Event.{EventValue}
use Rattle.line_intake.specs.Answers.{answers_text}
use Rattle.line_intake.specs.Judged.{AreJudged, TakesLines, faults_in}
use Rattle.line_intake.specs.Written.{Wrote}
use Rattle.line_intake.specs.declared.answer.Told.{Told}
use Rattle.line_intake.specs.declared.step.FollowFault.{FollowFault}
use Rattle.line_intake.specs.declared.step.FollowFault.TheVariants as fault

-- the input lost lines, from its first on, and the text acknowledges each of them but the empty
-- ones: one at fault with its fault, any other with so many of its events as new
pub record AreTold (old new : Option (List ℕ)) (tells : List Told) (text : List ℕ) : Type 0 where
  pub lines : List (List ℕ)
  pub lists : List (List EventValue)
  pub each : List ℕ
  pub taken : TakesLines old lines new
  pub judged : AreJudged 0 lines tells lists
  pub one_each : length each ≡ length lists
  pub are : text ≡ answers_text tells lists each

-- every line of the input, to its end, is acknowledged, and so many are at fault
pub record TellsAll (old out out' : Option (List ℕ)) (faults : ℕ) : Type 0 where
  pub left : Option (List ℕ)
  pub over : IsAtEnd left
  pub tells : List Told
  pub text : List ℕ
  pub told : AreTold old left tells text
  pub written : Appends out out' text
  pub faulty : faults ≡ faults_in tells

-- some of the input's lines are acknowledged, from the first on
pub record TellsSome (old out out' : Option (List ℕ)) : Type 0 where
  pub left : Option (List ℕ)
  pub tells : List Told
  pub text : List ℕ
  pub told : AreTold old left tells text
  pub written : Appends out out' text

-- the input's lines are acknowledged so but for the rest of the text, which couldn't be written
pub record TellsPart (old out out' : Option (List ℕ)) : Type 0 where
  pub left : Option (List ℕ)
  pub tells : List Told
  pub text : List ℕ
  pub told : AreTold old left tells text
  pub rest : List ℕ
  pub written : Wrote out out' text rest

-- what is acknowledged of the input's lines where the stream ends for this fault
abbrev pub TellsUntil : FollowFault → Option (List ℕ) → Option (List ℕ) → Option (List ℕ) → Type 0
TellsUntil (fault.Input why) old out out' = TellsSome old out out'
TellsUntil (fault.Table why) old out out' = TellsSome old out out'
TellsUntil fault.Unwritten old out out' = TellsPart old out out'
