-- Texts that tell counts: of types, and of types by day.
use Rattle.std.specs.Prelude.{◌≡◌, ◌≢◌, ◌≤◌, ◌<◌, ◌^◌, ℕ, ℤ, List, Some, cond, length, slice_get, sum_by}
use Rattle.std.specs.Ordering.{is_eq}
use Rattle.std.specs.Map.{keys_of}
use Rattle.std.specs.List.{AllByRecursion}
use Rattle.std.specs.List.Sorted.{IsStrictlySortedBy}
use Rattle.std.specs.declared.cmp.Ordering.{Ordering}
use Rattle.attributes.specs.Bytes.{byte_cmp}
use Rattle.attributes.specs.Event.{EventValue}
use Rattle.views.specs.Line.{AreDayLines, kind_lines}
use Rattle.views.specs.Tally.{day_cmp}
use Rattle.views.specs.declared.query.Query.{Query}
use Rattle.views.specs.declared.query.Query.TheVariants as query
use Rattle.parts.specs.Combined.{AreAnswers, AreApartCovers, RefusesCovers}
use Rattle.parts.specs.Lines.{AreJoined}
use Rattle.parts.specs.Merge.{added}
use Rattle.parts.specs.declared.fault.CombineFault.{CombineFault}
use Rattle.parts.specs.declared.fault.CombineFault.TheVariants.{OutOfMemory, NotAnAnswer, CoverCount, TooMany}

-- the count in a part's row is from 1 to 2^64 - 1
abbrev pub IsCounted : {K : Type 0} → K × ℕ → Type 0
IsCounted row = (1 ≤ row.1) × (row.1 < 2 ^ 64)

-- the rows of a part's answer: keys with counts, each key once and in order
abbrev pub AreCounts : {K : Type 0} → (K → K → Ordering) → List (K × ℕ) → Type 0
AreCounts R rows = IsStrictlySortedBy R (keys_of rows) × AllByRecursion IsCounted rows

-- the text of a part tells the types with their counts
abbrev pub AreKinds : List ℕ → List (List ℕ × ℕ) → Type 0
AreKinds text rows = AreCounts byte_cmp rows × (text ≡ kind_lines rows)

-- the text of a part tells the types and days with their counts
abbrev pub AreDays : List ℕ → List ((List ℕ × ℤ) × ℕ) → Type 0
AreDays text rows = AreCounts day_cmp rows × AreDayLines rows text

-- the text of a part tells no rows
abbrev pub TellsNoRows : {X : Type 0} → (List ℕ → List X → Type 0) → List ℕ → Type 0
TellsNoRows {X} Tells text = (rows : List X) → Tells text rows → ⊥

-- what is true of texts of parts of which one is refused with the fault
abbrev pub RefusesAnswers : {X : Type 0} → (List ℕ → List X → Type 0) → List (List ℕ) → CombineFault
    → Type 0
RefusesAnswers Tells texts OutOfMemory = Unit {0}
RefusesAnswers Tells texts (NotAnAnswer i) =
    (text : List ℕ) × (slice_get texts i ≡ Some text) × TellsNoRows Tells text
RefusesAnswers Tells texts _ = ⊥

-- the counts of a key in all parts come to more than 2^64 - 1
abbrev pub AreTooMany : {K : Type 0} → (K → K → Ordering) → List (K × ℕ) → Type 0
AreTooMany {K} R rows = (k : K) × (2 ^ 64 ≤ sum_by (λ r. cond (is_eq (R k r.0)) r.1 0) rows)

-- what is true of rows of parts whose sums are refused with the fault
abbrev pub RefusesSums : {K : Type 0} → (K → K → Ordering) → List (K × ℕ) → CombineFault → Type 0
RefusesSums R rows OutOfMemory = Unit {0}
RefusesSums R rows TooMany = AreTooMany R rows
RefusesSums R rows _ = ⊥

-- what is true of parts' texts of counts that are refused with the fault
abbrev pub RefusesCounts : {K : Type 0} → (List ℕ → List (K × ℕ) → Type 0) → (K → K → Ordering)
    → List (List ℕ) → CombineFault → Type 0
RefusesCounts {K} Tells R texts TooMany =
    (rows : List (K × ℕ)) × AreJoined Tells texts rows × AreTooMany R rows
RefusesCounts Tells R texts f = RefusesAnswers Tells texts f

-- the text has the lines of the sums of the counts that the texts of parts tell
abbrev pub IsSummed : {K : Type 0} → (List ℕ → List (K × ℕ) → Type 0) → (K → K → Ordering)
    → (List (K × ℕ) → List ℕ → Type 0) → List (List ℕ) → List ℕ → Type 0
IsSummed {K} Tells R AreRowLines texts text =
    (rows : List (K × ℕ)) × AreJoined Tells texts rows × AreRowLines (added R rows) text

-- the combined text has the lines of the types
abbrev pub AreKindLines : List (List ℕ × ℕ) → List ℕ → Type 0
AreKindLines rows text = text ≡ kind_lines rows

-- ---- counts have no sources, so covers stand beside them

-- a cover stands beside each part's answer, and no source stands in two of them
abbrev pub AreBeside : List (List ℕ) → List (List ℕ) → Type 0
AreBeside answers covers = (length covers ≡ length answers) × AreApartCovers covers

-- what is true of covers beside the answers of parts that are refused with the fault
abbrev pub RefusesBeside : List (List ℕ) → List (List ℕ) → CombineFault → Type 0
RefusesBeside answers covers (CoverCount m n) =
    (m ≡ length answers) × (n ≡ length covers) × (n ≢ m)
RefusesBeside answers covers f = RefusesCovers covers f

-- the texts answer the question over the parts of E, whose events fit a count, and beside each
-- stands the part's answer to `cover`
pub record AreAnswersBeside (q : Query) (p : List ℕ → ℕ) (E : List EventValue)
    (answers covers : List (List ℕ)) : Type 0 where
  pub few : length E < 2 ^ 64
  pub told : AreAnswers q p E answers
  pub covered : AreAnswers query.Cover p E covers
  pub beside : length covers ≡ length answers
