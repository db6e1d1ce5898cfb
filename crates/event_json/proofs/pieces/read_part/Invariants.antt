-- What stands before the comma, once it is closed, is an array of whose members that is gathered.
use Rattle.std.proofs.Common.{◌≡◌, ◌<◌, length, take, slice_get, Some, ◌-◌, false}
use Rattle.event_json.specs.Parts.{part_text}
use Rattle.event_json.specs.steps.Pieces.{Gathers}
use Rattle.event_json.proofs.pieces.read_part.Given as goal

abbrev pub invariant-loop-next : goal.invariant-loop-next
invariant-loop-next g l = (l.at < length l.bytes) × (slice_get l.bytes l.at ≡ Some 44) × Gathers (part_text l.fn.opened (take l.at l.bytes) false) (g.G.Gather.is_of l.gathered)

abbrev pub decreases-loop-next : goal.decreases-loop-next
decreases-loop-next g l = length l.bytes - l.at
