use Rattle.std.proofs.Common.{◌≡◌, ◌+◌, ◌≤◌, ◌++◌, length, map, vec_capacity}
use Rattle.relay_fan.specs.declared.fan.slot.Slot.TheVariants.{Ended}
use Rattle.relay_fan.proofs.fan.lanes_back.Given as goal

abbrev pub invariant-loop-slot : goal.invariant-loop-slot
invariant-loop-slot g l =
    (map Ended l.lanes.items ++ l.slot-iterator.rest.items ≡ l.fn.slots.items)
    × (length l.lanes.items + length l.slot-iterator.rest.items ≤ vec_capacity l.lanes)
