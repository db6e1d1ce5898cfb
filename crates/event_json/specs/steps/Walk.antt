-- The first value with a fault, found from the front.
use Rattle.std.specs.Prelude.{ℕ, suc, List, [], ◌∷◌, Option, Some, None}
use Rattle.serde_json.specs.Data.{Data}
use Rattle.attributes.specs.declared.fault.Fault.{Fault}
use Rattle.event_json.specs.Spelling.{fault_in}
use Rattle.event_json.specs.declared.fault.ReadFault.{ReadFault}
use Rattle.event_json.specs.declared.fault.ReadFault.TheVariants.{BadEvent}

-- the refusal of a batch's value at i
abbrev pub bad : ℕ → Fault → ReadFault
bad i f = BadEvent i f

-- the refusal of a batch's value at n where it has a fault, and else that of later ones
abbrev pub bad_or : ℕ → Option Fault → Option ReadFault → Option ReadFault
bad_or n None later = later
bad_or n (Some f) later = Some (bad n f)

-- the first of a batch's values that has a fault, where the first stands at n
abbrev pub first_bad : ℕ → List Data → Option ReadFault
first_bad n [] = None
first_bad n (d ∷ ds) = bad_or n (fault_in d) (first_bad (suc n) ds)
