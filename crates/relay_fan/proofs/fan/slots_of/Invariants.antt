use Rattle.std.proofs.Common.{◌≡◌, ◌+◌, ◌≤◌, ◌++◌, length, map, vec_capacity}
use Rattle.relay_fan.specs.declared.fan.slot.Slot.TheVariants.{Waiting}
use Rattle.relay_fan.proofs.fan.slots_of.Given as goal

abbrev pub invariant-loop-lane : goal.invariant-loop-lane
invariant-loop-lane g l =
    (l.slots.items ++ map Waiting l.lane-iterator.rest.items ≡ map Waiting l.fn.lanes.items)
    × (length l.slots.items + length l.lane-iterator.rest.items ≤ vec_capacity l.slots)
