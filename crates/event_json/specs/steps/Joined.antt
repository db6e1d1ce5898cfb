-- Texts joined from the front, one member after the other.
use Rattle.std.specs.Prelude.{ℕ, List, [], ◌∷◌, ◌++◌, Bool, true, false}
use Rattle.attributes.specs.Event.{EventValue, text}

-- an event's text in a batch, with a comma before it unless it is the first
abbrev pub separated : Bool → List ℕ → List ℕ
separated true t = t
separated false t = 44 ∷ t

-- the texts of a batch joined by commas; the flag says that nothing stands before
abbrev pub joined : Bool → List EventValue → List ℕ
joined first [] = []
joined first (e ∷ es) = separated first (text e) ++ joined false es
