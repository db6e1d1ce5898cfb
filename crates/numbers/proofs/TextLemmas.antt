-- The text of an event with its number.
use Rattle.std.proofs.Common.{◌≡◌, false, refl}
use Rattle.serde_json.specs.Data.{no_members}
use Rattle.serde_json.specs.Written.{members_have_float}
use Rattle.attributes.specs.Event.{EventValue, members_of}
use Rattle.attributes.specs.Fault.{IsEvent, parts_of}
use Rattle.attributes.proofs.FaultLemmas.{no_payload_fault, numbers_pass}
use Rattle.attributes.proofs.TreeLemmas.{has_float-with_all, whole_with}

pub no_float : (e : EventValue) → IsEvent e → members_have_float (members_of e) ≡ false
no_float e h = whole_with e.content _ (numbers_pass (parts_of e).offered (no_payload_fault (parts_of e) h.faultless)) (has_float-with_all e.attributes no_members refl)
