-- Answers of the parts of a set, and the answer over the set.
use Rattle.std.specs.Prelude.{◌⊎◌, ℕ, ℤ, Bool, List, false, true}
use Rattle.attributes.specs.Bytes.{byte_cmp}
use Rattle.attributes.specs.Event.{EventValue}
use Rattle.views.specs.Tally.{day_cmp}
use Rattle.views.specs.declared.query.Query.{Query}
use Rattle.views.specs.declared.query.Query.TheVariants as query
use Rattle.parts.specs.Combined.{AreAnswers, AreApartCovers, RefusesCovers}
use Rattle.parts.specs.Counts.{AreAnswersBeside, AreBeside, AreDays, AreKinds, RefusesBeside, RefusesCounts}
use Rattle.parts.specs.Gaps.{AreGapsBeside, RefusesGaps}
use Rattle.parts.specs.Lines.{AreJoined}
use Rattle.parts.specs.Told.{AreToldApart, RefusesTold}
use Rattle.parts.specs.declared.fault.CombineFault.{CombineFault}
use Rattle.parts.specs.declared.fault.CombineFault.TheVariants as fault

-- the texts answer the question over the parts of E. An answer to `cover` or `shown` shows each
-- source of its part; beside the others stand the parts' answers to `cover`
abbrev pub ArePartsOf : Query → (List ℕ → ℕ) → List EventValue → List (List ℕ) → List (List ℕ)
    → Type 0
ArePartsOf query.Cover p E answers covers = AreAnswers query.Cover p E answers
ArePartsOf query.Shown p E answers covers = AreAnswers query.Shown p E answers
ArePartsOf q p E answers covers = AreAnswersBeside q p E answers covers

-- the texts are answers to the question, and no source stands in two of the parts
abbrev pub AreApartIn : Query → List (List ℕ) → List (List ℕ) → Type 0
AreApartIn query.Cover answers covers = AreApartCovers answers
AreApartIn query.Shown answers covers = AreToldApart query.Shown answers
AreApartIn query.Kinds answers covers =
    AreBeside answers covers × ((rows : List (List ℕ × ℕ)) × AreJoined AreKinds answers rows)
AreApartIn query.Days answers covers =
    AreBeside answers covers × ((rows : List ((List ℕ × ℤ) × ℕ)) × AreJoined AreDays answers rows)
AreApartIn query.Gaps answers covers = AreBeside answers covers × AreGapsBeside answers covers
AreApartIn q answers covers = AreBeside answers covers × AreToldApart q answers

-- what is true of the texts of parts that are refused with the fault
abbrev pub RefusesParts : Query → List (List ℕ) → List (List ℕ) → CombineFault → Type 0
RefusesParts query.Cover answers covers f = RefusesCovers answers f
RefusesParts query.Shown answers covers f = RefusesTold query.Shown answers f
RefusesParts query.Kinds answers covers f =
    RefusesBeside answers covers f ⊎ RefusesCounts AreKinds byte_cmp answers f
RefusesParts query.Days answers covers f =
    RefusesBeside answers covers f ⊎ RefusesCounts AreDays day_cmp answers f
RefusesParts query.Gaps answers covers f =
    RefusesBeside answers covers f ⊎ RefusesGaps answers covers f
RefusesParts q answers covers f = RefusesBeside answers covers f ⊎ RefusesTold q answers f

-- beside the answers to the question the covers of the parts stand
abbrev pub has_covers : Query → Bool
has_covers query.Cover = false
has_covers query.Shown = false
has_covers query.Conflicts = true
has_covers query.Latest = true
has_covers query.Kinds = true
has_covers query.Days = true
has_covers query.Gaps = true

-- the fault of a part's answer that is none to the question
abbrev pub no_answer : Query → ℕ → CombineFault
no_answer query.Cover i = fault.NotACover i
no_answer _ i = fault.NotAnAnswer i
