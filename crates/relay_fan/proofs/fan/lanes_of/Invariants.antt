use Rattle.std.proofs.Common.{◌≤◌, length, vec_capacity}
use Rattle.relay_fan.proofs.FanLemmas.{Filled}
use Rattle.relay_fan.proofs.fan.lanes_of.Given as goal

abbrev pub invariant-loop-route : goal.invariant-loop-route
invariant-loop-route g l =
    Filled l.relays.items l.fn.routes.items l.lanes.items l.place l.route-iterator.rest.items
    × (length l.fn.routes.items ≤ vec_capacity l.lanes)
