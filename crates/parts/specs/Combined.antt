-- What parts answer, and what is told of the whole by it.
use Rattle.std.specs.Prelude.{◌≡◌, ◌≢◌, ◌<◌, ℕ, List, Some, true, length, map, slice_get, String, string_bytes}
use Rattle.std.specs.List.{AllByRecursion, list_any}
use Rattle.std.specs.BTreeSet.{BTreeSet, contains_text}
use Rattle.std.specs.declared.alloc.Global.{Global}
use Rattle.attributes.specs.Event.{EventValue}
use Rattle.coverage.specs.Summary.{IsSummary, Sources, holds_at, version_of}
use Rattle.views.specs.Line.{cover_line}
use Rattle.views.specs.Question.{IsAnswer}
use Rattle.views.specs.declared.query.Query.{Query}
use Rattle.parts.specs.Part.{FallsBelow, part}
use Rattle.parts.specs.declared.fault.CombineFault.{CombineFault}
use Rattle.parts.specs.declared.fault.CombineFault.TheVariants.{OutOfMemory, NotACover, Overlap}

-- the texts answer the question over the parts of E, the text at place i over part i
pub record AreAnswers (query : Query) (p : List ℕ → ℕ) (E : List EventValue)
    (texts : List (List ℕ)) : Type 0 where
  pub below : FallsBelow p (length texts)
  pub each : (i : ℕ) (text : List ℕ) → slice_get texts i ≡ Some text
      → IsAnswer query (part p i E) text

-- the summary that a part's text tells is of that version
abbrev pub IsOfVersion : ℕ → Sources → Type 0
IsOfVersion version s = IsSummary s × (version_of s ≡ version)

-- the text of a part is the line of no summary of that version
abbrev pub IsNoLineOf : ℕ → List ℕ → Type 0
IsNoLineOf version text = (s : Sources) → IsOfVersion version s → text ≢ cover_line s

-- the summary of a part is of version 1
abbrev pub IsOfFirstVersion : Sources → Type 0
IsOfFirstVersion s = IsOfVersion 1 s

-- the texts of parts are the answers to `cover` that say what the summaries do
pub record AreCovers (texts : List (List ℕ)) (summaries : List Sources) : Type 0 where
  pub first : AllByRecursion IsOfFirstVersion summaries
  pub written : map cover_line summaries ≡ texts

-- the summary of a part has a number of the source
abbrev pub HasSource : Sources → List ℕ → Type 0
HasSource s source = (n : ℕ) × (holds_at s source n ≡ true)

-- no source has numbers in the summaries of both parts
abbrev pub ShareNone : Sources → Sources → Type 0
ShareNone s t = (source : List ℕ) → HasSource s source → HasSource t source → ⊥

-- the summary at a place, that of a part, has a number of the source
abbrev pub HasAt : List Sources → ℕ → List ℕ → Type 0
HasAt summaries i source =
    (s : Sources) × (slice_get summaries i ≡ Some s) × HasSource s source

-- no source has numbers in the summaries of two parts
abbrev pub AreApart : List Sources → Type 0
AreApart summaries =
    (i j : ℕ) (source : List ℕ) → i < j → HasAt summaries i source → HasAt summaries j source → ⊥

-- the texts are covers of parts in which no source stands twice
abbrev pub AreApartCovers : List (List ℕ) → Type 0
AreApartCovers texts = (summaries : List Sources) × AreCovers texts summaries × AreApart summaries

-- the text of a part isn't the answer to `cover` over any set
abbrev pub IsNoCover : List ℕ → Type 0
IsNoCover text = IsNoLineOf 1 text

-- what is true of the covers of parts that are refused with the fault
abbrev pub RefusesCovers : List (List ℕ) → CombineFault → Type 0
RefusesCovers texts OutOfMemory = Unit {0}
RefusesCovers texts (NotACover i) = (text : List ℕ) × (slice_get texts i ≡ Some text) × IsNoCover text
RefusesCovers texts (Overlap name i j) =
    (summaries : List Sources) × AreCovers texts summaries × (i < j)
    × HasAt summaries i (string_bytes name) × HasAt summaries j (string_bytes name)
RefusesCovers texts _ = ⊥

-- what is true of summaries of parts that are refused with the fault
abbrev pub RefusesRead : List Sources → CombineFault → Type 0
RefusesRead summaries OutOfMemory = Unit {0}
RefusesRead summaries (Overlap name i j) =
    (i < j) × HasAt summaries i (string_bytes name) × HasAt summaries j (string_bytes name)
RefusesRead summaries _ = ⊥

-- the sources of the first set are in the second
abbrev pub KeepsSources : BTreeSet (String Global) → BTreeSet (String Global) → Type 0
KeepsSources old new =
    (source : List ℕ) → contains_text old source ≡ true → contains_text new source ≡ true

-- the combined summary holds what one of the parts' summaries does
abbrev pub HoldsUnion : List Sources → Sources → Type 0
HoldsUnion summaries s =
    (source : List ℕ) (n : ℕ) → holds_at s source n
    ≡ list_any (λ t. holds_at t source n) summaries
