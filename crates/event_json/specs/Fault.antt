-- The numbers by which refusals are known.
use Rattle.std.specs.Prelude.{ℕ}
use Rattle.event_json.specs.declared.fault.ReadFault.{ReadFault}
use Rattle.event_json.specs.declared.fault.ReadFault.TheVariants.{OutOfMemory, NotJson, NotEvent}
use Rattle.event_json.specs.declared.fault.ReadFault.TheVariants.{BadEvent, InputTooLarge}

-- the number of the kind of a refusal of bytes that are to be read as events
abbrev pub fault_number : ReadFault → ℕ
fault_number OutOfMemory = 1
fault_number NotJson = 2
fault_number NotEvent = 3
fault_number (BadEvent i f) = 4
fault_number InputTooLarge = 5
