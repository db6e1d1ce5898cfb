-- The lines of an input, which LF ends.
use Rattle.std.specs.Prelude.{◌≡◌, ◌≢◌, ◌≤◌, ◌<◌, ◌⊎◌, ◌++◌, ℕ, Bool, true, false, List, [], ◌∷◌, length, Option}
use Rattle.std.specs.List.{AllByRecursion}
use Rattle.std.specs.Io.KnownBytes.{Consumes, IsAtEnd}
use Rattle.event_json.specs.Reading.{max_input}
use Rattle.line_intake.specs.declared.line.Next.{Next}
use Rattle.line_intake.specs.declared.line.Next.TheVariants as next

-- there is no LF in a line of the input
abbrev pub HasNoLineFeed : List ℕ → Type 0
HasNoLineFeed bytes = AllByRecursion (λ b. b ≢ 10) bytes

-- the input of lines lost one: these bytes and the LF behind them, or, at its end, these alone
pub record TakesLine (old new : Option (List ℕ)) (line : List ℕ) : Type 0 where
  pub plain : HasNoLineFeed line
  pub taken : Consumes old new (line ++ 10 ∷ [])
      ⊎ (Consumes old new line × IsAtEnd new × (line ≢ []))

-- the input's line came next, or one that is too long, or nothing, since the input is at its end
abbrev pub IsNext : Option (List ℕ) → Option (List ℕ) → Next → Type 0
IsNext old new (next.Line line) = TakesLine old new line × (length line ≤ max_input)
IsNext old new next.TooLong = (line : List ℕ) × TakesLine old new line × (max_input < length line)
IsNext old new next.End = Consumes old new [] × IsAtEnd new

-- these bytes of lines were taken, and the input is at its end unless it goes on
abbrev pub EndsWith : Bool → Option (List ℕ) → Option (List ℕ) → List ℕ → Type 0
EndsWith goes_on old new bytes = Consumes old new bytes × (goes_on ≡ false → IsAtEnd new)

-- what is held of the first bytes of an input's line: all of them, or that they are too many
abbrev pub IsPartOf : List ℕ → Bool → List ℕ → Type 0
IsPartOf held false bytes = (held ≡ bytes) × (length bytes ≤ max_input)
IsPartOf held true bytes = max_input < length bytes

-- a line of the input that came to its LF
abbrev pub ended_of : List ℕ → Bool → Next
ended_of line false = next.Line line
ended_of line true = next.TooLong

-- what is left of a line at the end of the input
abbrev pub last_of : List ℕ → Bool → Next
last_of line true = next.TooLong
last_of [] false = next.End
last_of (b ∷ line) false = next.Line (b ∷ line)
