-- The text that says which numbers of which sources have been seen, whatever else is summarized.
use Rattle.std.specs.Prelude.{◌≡◌, ℕ, Bool, List}
use Rattle.coverage.specs.Numbers.{AreListed, Entries, holds_in}
use Rattle.coverage.specs.NumbersText.{numbers_text}

-- the text of the summary that holds exactly the numbers of the sources for which the test is true
pub record IsCoverText (has : List ℕ → ℕ → Bool) (text : List ℕ) : Type 0 where
  pub summary : Entries
  pub is_summary : AreListed summary
  pub exact : (source : List ℕ) (n : ℕ) → holds_in summary source n ≡ has source n
  pub written : text ≡ numbers_text summary
