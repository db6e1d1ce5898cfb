use Rattle.std.proofs.Common.{◌≡◌, ◌+◌, ◌≤◌, ◌++◌, length, map, vec_capacity}
use Rattle.relay_fan.specs.steps.Lane.{end_of_lane}
use Rattle.relay_fan.proofs.fan.settle.Given as goal

abbrev pub invariant-loop-lane : goal.invariant-loop-lane
invariant-loop-lane g l =
    let rest = l.lane-iterator.rest.items in
    (l.relays.items ++ map (λ x. x.relay) rest ≡ map (λ x. x.relay) l.fn.lanes.items)
    × (l.routes.items ++ map (λ x. x.route) rest ≡ map (λ x. x.route) l.fn.lanes.items)
    × (l.ends.items ++ map end_of_lane rest ≡ map end_of_lane l.fn.lanes.items)
    × (length l.relays.items + length rest ≤ vec_capacity l.relays)
    × (length l.routes.items + length rest ≤ vec_capacity l.routes)
    × (length l.ends.items + length rest ≤ vec_capacity l.ends)
