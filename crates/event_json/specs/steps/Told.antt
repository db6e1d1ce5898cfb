-- Which members of a value are at fault.
use Rattle.std.specs.Prelude.{◌≡◌, List, Option, None}
use Rattle.std.specs.List.{AllByRecursion}
use Rattle.serde_json.specs.Data.{Data}
use Rattle.attributes.specs.declared.fault.Fault.{Fault}
use Rattle.event_json.specs.Spelling.{candidates}
use Rattle.event_json.specs.declared.fault.ReadFault.{ReadFault}
use Rattle.event_json.specs.declared.fault.ReadFault.TheVariants.{NotEvent}

-- the JSON value is neither an object nor an array, so no member of an input
abbrev pub IsNoMember : Data → ReadFault → Type 0
IsNoMember value NotEvent = candidates value ≡ None
IsNoMember value _ = ⊥

-- none of an input's members is at fault
abbrev pub AllAreNone : List (Option Fault) → Type 0
AllAreNone faults = AllByRecursion (λ f. f ≡ None) faults
