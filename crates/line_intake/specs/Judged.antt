-- Which events lines have, and why they have none.
use Rattle.std.specs.Prelude.{◌≡◌, ℕ, suc, ◌+◌, List, [], ◌∷◌, length, count_by, is_some, Option, None, Some}
use Rattle.std.specs.Io.KnownBytes.{Consumes}
use Rattle.attributes.specs.Event.{EventValue}
use Rattle.event_json.specs.Reading.{Reads}
use Rattle.event_files.specs.Files.{AreSequenced, IsFault}
use Rattle.event_files.specs.declared.refusal.ReportFault.{ReportFault}
use Rattle.line_intake.specs.Lines.{TakesLine}
use Rattle.line_intake.specs.declared.answer.Told.{Told}

-- the line spells these events, all of them with numbers; or it has this fault, and nothing is
-- taken of it
abbrev pub IsJudged : List ℕ → Option ReportFault → List EventValue → Type 0
IsJudged line None L = Reads line L × AreSequenced L
IsJudged line (Some why) L = IsFault line why × (L ≡ [])

-- these lines come behind so many others; each but the empty ones is told with its place, counted
-- from 1, and with its events
abbrev pub AreJudged : ℕ → List (List ℕ) → List Told → List (List EventValue) → Type 0
AreJudged before [] [] [] = Unit {0}
AreJudged before ([] ∷ lines) tells lists = AreJudged (suc before) lines tells lists
AreJudged before ((b ∷ line) ∷ lines) (told ∷ tells) (L ∷ lists) =
    (told.line ≡ suc before) × IsJudged (b ∷ line) told.fault L
    × AreJudged (suc before) lines tells lists
AreJudged before _ _ _ = ⊥

-- the input lost these lines, one after the other, which a turn takes
abbrev pub TakesLines : Option (List ℕ) → List (List ℕ) → Option (List ℕ) → Type 0
TakesLines old [] new = Consumes old new []
TakesLines old (line ∷ lines) new =
    (mid : Option (List ℕ)) × TakesLine old mid line × TakesLines mid lines new

-- a turn's lines: so many were there before, so many are there now: the input lost those between,
-- and they are told so
pub record IsGathered (before now : ℕ) (old new : Option (List ℕ)) (tells : List Told)
    (lists : List (List EventValue)) : Type 0 where
  pub lines : List (List ℕ)
  pub taken : TakesLines old lines new
  pub judged : AreJudged before lines tells lists
  pub count : now ≡ before + length lines

-- how many of the input's lines are at fault
abbrev pub faults_in : List Told → ℕ
faults_in tells = count_by (λ t. is_some t.fault) tells
