-- The files that are asked to be saved.
use Rattle.std.specs.Prelude.{◌≡◌, ◌++◌, ℕ, Bool, List, Option, None, Some}

-- a file that the program asked to be saved: its name, its bytes, and whether it was
pub record Output : Type 0 where
  pub name : List ℕ
  pub bytes : List ℕ
  pub is_saved : Bool

-- the files that the program saved grew by these, where they are known
abbrev pub GrewBy : Option (List Output) → Option (List Output) → List Output → Type 0
GrewBy None new more = Unit {0}
GrewBy (Some old) None more = ⊥
GrewBy (Some old) (Some new) more = new ≡ old ++ more
