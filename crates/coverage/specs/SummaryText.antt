-- The text of a summary of either version.
pub use Rattle.coverage.specs.NumbersText.{intervals_items, intervals_tokens, sources_members}
use Rattle.std.specs.Prelude.{◌≡◌, ◌≢◌, ◌⊎◌, ℕ, List, [], ◌∷◌, ◌++◌, Option, Some, None}
use Rattle.coverage.specs.BlockDigests.{SourceBlocks}
use Rattle.coverage.specs.DigestsText.{digests_text}
use Rattle.coverage.specs.Numbers.{Entries}
use Rattle.coverage.specs.NumbersText.{numbers_text}
use Rattle.coverage.specs.Summary.{Sources}

-- the text of a summary's numbers, and of digests where there are any
abbrev pub text_of_entries : Entries → Option SourceBlocks → List ℕ
text_of_entries es None = numbers_text es
text_of_entries es (Some ds) = digests_text es ds

-- the text of a summary, by its version
abbrev pub summary_text : Sources → List ℕ
summary_text s = text_of_entries s.entries s.digests

-- the summary's text is the rest of these bytes before one LF at their end, or all of them where
-- none is there
abbrev pub WithoutLineEnd : List ℕ → List ℕ → Type 0
WithoutLineEnd bytes text = (bytes ≡ text ++ 10 ∷ [])
    ⊎ ((bytes ≡ text) × ((front : List ℕ) → bytes ≢ front ++ 10 ∷ []))
