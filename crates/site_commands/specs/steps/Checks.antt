-- A check of files that are read.
use Rattle.std.specs.Prelude.{◌≡◌, ◌≢◌, ◌⊎◌, ℕ, Bool, true, false, List, [], ◌++◌, Option}
use Rattle.site_commands.specs.Checks.{AreFaultsOf, TellsGiven}

-- `check` tells of the database and of what is at fault in these contents, and whether nothing is
pub record FindsIn (is_for_number : Bool) (db : Option (List ℕ)) (names contents : List (List ℕ))
    (faultless : Bool) (text : List ℕ) : Type 0 where
  pub sound : Bool
  pub told : List ℕ
  pub lines : List ℕ
  pub database : TellsGiven db sound told
  pub faults : AreFaultsOf is_for_number names contents lines
  pub both : text ≡ told ++ lines
  pub none : faultless ≡ true → (sound ≡ true) × (lines ≡ [])
  pub some : faultless ≡ false → (sound ≡ false) ⊎ (lines ≢ [])
