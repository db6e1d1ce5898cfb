-- What is gathered of a batch's members as they are read.
use Rattle.std.specs.Prelude.{ℕ, List, ◌++◌}
use Rattle.serde_json.specs.Data.{Data}
use Rattle.event_json.specs.Parts.{HoldsSome}

-- the bytes are the text of a JSON array of some values of which this holds
pub record Gathers (b : List ℕ) (P : List Data → Type 0) : Type 0 where
  pub members : List Data
  pub holds : HoldsSome b members
  pub is : P members

-- what holds of some members of a batch goes on as this, once these stand behind them
abbrev pub GoesOn : (List Data → Type 0) → (List Data → Type 0) → List Data → Type 0
GoesOn P Q es = (ds : List Data) → P ds → Q (ds ++ es)

-- the bytes are the text of a JSON array of some values, which go on so
pub record AddsMembers (b : List ℕ) (P Q : List Data → Type 0) : Type 0 where
  pub members : List Data
  pub holds : HoldsSome b members
  pub goes_on : GoesOn P Q members
