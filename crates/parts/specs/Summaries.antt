-- Summaries of version 2 of parts, and the summary of the whole.
use Rattle.std.specs.Prelude.{◌≡◌, ◌≢◌, ◌<◌, ℕ, List, [], Some, length, map, slice_get, string_bytes}
use Rattle.std.specs.List.{AllByRecursion}
use Rattle.attributes.specs.Event.{EventValue}
use Rattle.coverage.specs.Digests.{Digests, block_digest_at}
use Rattle.coverage.specs.Summary.{Sources, numbers_of}
use Rattle.coverage.specs.SummaryText.{summary_text}
use Rattle.views.specs.Line.{line}
use Rattle.parts.specs.Combined.{AreApart, HasAt, IsNoLineOf, IsOfVersion}
use Rattle.parts.specs.Part.{FallsBelow, part}
use Rattle.parts.specs.declared.fault.CombineFault.{CombineFault}
use Rattle.parts.specs.declared.fault.CombineFault.TheVariants.{OutOfMemory, NotAnAnswer, Overlap}

-- the text of the summary of a part or of the whole, in a line
abbrev pub summary_line : Sources → List ℕ
summary_line s = line (summary_text s)

-- the text is the line of the summary of version 2 of a part's events
abbrev pub IsSummaryOf : List EventValue → List ℕ → Type 0
IsSummaryOf E text = (s : Sources) × Digests E s × (text ≡ summary_line s)

-- the texts are the summaries of the parts of E, the text at place i that of part i
pub record AreSummaries (p : List ℕ → ℕ) (E : List EventValue) (texts : List (List ℕ))
    : Type 0 where
  pub below : FallsBelow p (length texts)
  pub each : (i : ℕ) (text : List ℕ) → slice_get texts i ≡ Some text
      → IsSummaryOf (part p i E) text

-- the summary of a part is of version 2
abbrev pub IsSecond : Sources → Type 0
IsSecond s = IsOfVersion 2 s

-- the texts of parts are the lines of their summaries, which are of version 2
pub record AreSummaryLines (texts : List (List ℕ)) (summaries : List Sources) : Type 0 where
  pub second : AllByRecursion IsSecond summaries
  pub written : map summary_line summaries ≡ texts

-- the texts of parts are summaries of version 2 in which no source stands twice
abbrev pub AreApartSummaries : List (List ℕ) → Type 0
AreApartSummaries texts =
    (summaries : List Sources) × AreSummaryLines texts summaries × AreApart summaries

-- the text of a part is the line of no summary of version 2
abbrev pub IsNoSummary : List ℕ → Type 0
IsNoSummary text = IsNoLineOf 2 text

-- what is true of the summaries of parts that are refused with the fault
abbrev pub RefusesSummaries : List (List ℕ) → CombineFault → Type 0
RefusesSummaries texts OutOfMemory = Unit {0}
RefusesSummaries texts (NotAnAnswer i) =
    (text : List ℕ) × (slice_get texts i ≡ Some text) × IsNoSummary text
RefusesSummaries texts (Overlap name i j) =
    (summaries : List Sources) × AreSummaryLines texts summaries × (i < j)
    × HasAt summaries i (string_bytes name) × HasAt summaries j (string_bytes name)
RefusesSummaries texts _ = ⊥

-- ---- summaries joined

-- of the summaries of the first n parts none but the one at place i has numbers of the source
abbrev pub IsAlone : List Sources → ℕ → ℕ → List ℕ → Type 0
IsAlone summaries n i source =
    (j : ℕ) (t : Sources) → j < n → j ≢ i → slice_get summaries j ≡ Some t
    → numbers_of t source ≡ []

-- the summaries of whole and part tell the same of the source: its numbers, its blocks' digests
abbrev pub TellAlike : Sources → Sources → List ℕ → Type 0
TellAlike s t source = (numbers_of s source ≡ numbers_of t source)
    × ((k : ℕ) → block_digest_at s source k ≡ block_digest_at t source k)

-- of a source that just one of the first n parts' summaries has, the whole tells what that one
-- does; it has no number of a source that none of them has
pub record IsJoined (summaries : List Sources) (n : ℕ) (s : Sources) : Type 0 where
  pub alone : (i : ℕ) → i < n → (t : Sources) (source : List ℕ) → slice_get summaries i ≡ Some t
      → IsAlone summaries n i source → TellAlike s t source
  pub none : (source : List ℕ) → IsAlone summaries n n source → numbers_of s source ≡ []
