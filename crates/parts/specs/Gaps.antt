-- Texts that answer `gaps`, each with the cover beside it. The numbers of a set tell its gaps.
use Rattle.std.specs.Prelude.{◌≡◌, ℕ, List, Some, slice_get}
use Rattle.attributes.specs.Event.{EventValue}
use Rattle.coverage.specs.Summary.{Sources}
use Rattle.views.specs.Number.{Sums}
use Rattle.views.specs.Question.{IsAnswer}
use Rattle.views.specs.declared.query.Query.TheVariants as query
use Rattle.parts.specs.Combined.{AreCovers}
use Rattle.parts.specs.declared.fault.CombineFault.{CombineFault}
use Rattle.parts.specs.declared.fault.CombineFault.TheVariants.{OutOfMemory, NotAnAnswer}

-- the text of a part answers `gaps` over each set that has just the numbers of its summary
abbrev pub TellsGaps : Sources → List ℕ → Type 0
TellsGaps s text = (E : List EventValue) → Sums E s → IsAnswer query.Gaps E text

-- the text of a part answers `gaps` over no set that has just the numbers of its summary
abbrev pub TellsOther : Sources → List ℕ → Type 0
TellsOther s text = (E : List EventValue) → Sums E s → IsAnswer query.Gaps E text → ⊥

-- each part's text answers `gaps` over each set with just the numbers of the summary at its place
abbrev pub AreGapTexts : List (List ℕ) → List Sources → Type 0
AreGapTexts texts summaries =
    (i : ℕ) (text : List ℕ) (s : Sources) → slice_get texts i ≡ Some text
    → slice_get summaries i ≡ Some s → TellsGaps s text

-- what is true of parts' texts and the covers beside them that are refused with the fault
abbrev pub RefusesGaps : List (List ℕ) → List (List ℕ) → CombineFault → Type 0
RefusesGaps texts covers OutOfMemory = Unit {0}
RefusesGaps texts covers (NotAnAnswer i) =
    (text : List ℕ) × (summaries : List Sources) × (s : Sources)
    × (slice_get texts i ≡ Some text) × AreCovers covers summaries
    × (slice_get summaries i ≡ Some s) × TellsOther s text
RefusesGaps texts covers _ = ⊥

-- the texts of parts are such answers to `gaps` beside the covers
abbrev pub AreGapsBeside : List (List ℕ) → List (List ℕ) → Type 0
AreGapsBeside texts covers =
    (summaries : List Sources) × AreCovers covers summaries × AreGapTexts texts summaries
