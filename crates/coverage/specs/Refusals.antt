-- What each refusal of a text says, in the order in which they are tested.
use Rattle.std.specs.Prelude.{◌≡◌, ◌≢◌, ◌⊎◌, ℕ, List, MatchResult, Result, Some, None, true, false}
use Rattle.serde_json.specs.Data.{Data}
use Rattle.attributes.specs.JsonText.{IsJsonText}
use Rattle.coverage.specs.Summary.{IsSummary, Sources}
use Rattle.coverage.specs.SummaryText.{summary_text}
use Rattle.coverage.specs.SummaryShape.{version_of, is_shaped, is_shaped_with_blocks}
use Rattle.coverage.specs.declared.fault.SummaryFault.{SummaryFault}
use Rattle.coverage.specs.declared.fault.SummaryFault.TheVariants.{OutOfMemory, NotJson, Shape}
use Rattle.coverage.specs.declared.fault.SummaryFault.TheVariants.{Version, NotCanonical}

-- the bytes to be a summary are no JSON text
abbrev pub IsNoJson : List ℕ → Type 0
IsNoJson bytes = (d : Data) → IsJsonText bytes d → ⊥

-- the value is of version 1 or 2, and has another shape than a summary of its version
abbrev pub IsOtherShape : Data → Type 0
IsOtherShape d =
    ((version_of d ≡ Some 1) × (is_shaped d ≡ false))
    ⊎ ((version_of d ≡ Some 2) × (is_shaped_with_blocks d ≡ false))

-- the value is of version 1 or 2, and has the shape of a summary of its version
abbrev pub IsOfShape : Data → Type 0
IsOfShape d =
    ((version_of d ≡ Some 1) × (is_shaped d ≡ true))
    ⊎ ((version_of d ≡ Some 2) × (is_shaped_with_blocks d ≡ true))

-- a value that has no version, or a known one and another shape than its summaries
abbrev pub IsMisshapen : List ℕ → Type 0
IsMisshapen bytes = (d : Data) × (IsJsonText bytes d × ((version_of d ≡ None) ⊎ IsOtherShape d))

-- a value for a summary whose version is neither 1 nor 2
abbrev pub IsOtherVersion : List ℕ → Type 0
IsOtherVersion bytes =
    (d : Data) × (IsJsonText bytes d × ((v : ℕ) × ((version_of d ≡ Some v) × (v ≢ 1) × (v ≢ 2))))

-- the bytes are the text of no summary
abbrev pub IsNoSummaryText : List ℕ → Type 0
IsNoSummaryText bytes = (s : Sources) → IsSummary s → bytes ≢ summary_text s

-- a value of a known version and of its shape, in bytes that are no summary's text
abbrev pub IsNotCanonical : List ℕ → Type 0
IsNotCanonical bytes = (d : Data) × (IsJsonText bytes d × IsOfShape d × IsNoSummaryText bytes)

-- what is true of bytes for a summary that are refused with the fault
abbrev pub RefusesSummary : List ℕ → SummaryFault → Type 0
RefusesSummary bytes OutOfMemory = Unit {0}
RefusesSummary bytes NotJson = IsNoJson bytes
RefusesSummary bytes Shape = IsMisshapen bytes
RefusesSummary bytes Version = IsOtherVersion bytes
RefusesSummary bytes NotCanonical = IsNotCanonical bytes

-- the bytes are the text of some summary
abbrev pub IsSummaryText : List ℕ → Type 0
IsSummaryText bytes = (s : Sources) × (IsSummary s × (bytes ≡ summary_text s))

-- of bytes that are the text of a summary, that one is read; only want of memory may refuse them
abbrev pub ReadsBack : List ℕ → Result Sources SummaryFault → Type 0
ReadsBack bytes result = (s : Sources) → IsSummary s → bytes ≡ summary_text s
    → MatchResult result (λ r. r ≡ s) (λ e. e ≡ OutOfMemory)
