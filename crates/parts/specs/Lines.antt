-- Texts in lines, each of which says something.
use Rattle.std.specs.Prelude.{◌≡◌, ◌≢◌, ◌++◌, ℕ, List, [], ◌∷◌}
use Rattle.std.specs.List.{AllByRecursion}

-- there is no LF in the line of a part's answer
abbrev pub IsOneLine : List ℕ → Type 0
IsOneLine bytes = AllByRecursion (λ b. b ≢ 10) bytes

-- a part's answer has the lines of the rows, one behind the other, each with an LF at its end
abbrev pub AreLinesOf : {X : Type 0} → (X → List ℕ → Type 0) → List X → List ℕ → Type 0
AreLinesOf is_line [] text = text ≡ []
AreLinesOf is_line (row ∷ rows) text =
    (line : List ℕ) × (rest : List ℕ) × is_line row line × IsOneLine line
    × (text ≡ line ++ 10 ∷ rest) × AreLinesOf is_line rows rest

-- what one part's text tells behind what another's does, each text telling its own
abbrev pub AreJoined : {X : Type 0} → (List ℕ → List X → Type 0) → List (List ℕ) → List X → Type 0
AreJoined Tells [] all = all ≡ []
AreJoined {X} Tells (text ∷ texts) all =
    (first : List X) × (rest : List X) × Tells text first × AreJoined Tells texts rest
    × (all ≡ first ++ rest)
