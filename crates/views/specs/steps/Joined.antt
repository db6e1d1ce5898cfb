-- Texts that are joined by commas.
use Rattle.std.specs.Prelude.{ℕ, List, ◌∷◌, Bool, true, false}

-- the text in the line of an answer, with a comma before it unless it is the first
abbrev pub separated : Bool → List ℕ → List ℕ
separated true t = t
separated false t = 44 ∷ t
