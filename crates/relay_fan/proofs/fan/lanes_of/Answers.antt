use Rattle.std.proofs.Common.{◌≡◌, ◌<◌, length, arith, refl}
use Rattle.relay_fan.proofs.FanLemmas.{filled_none, filled_more, filled_low, filled_relays, filled_routes}
use Rattle.relay_fan.proofs.fan.lanes_of.Goals as goal

pub loop-route-init : goal.loop-route-init
loop-route-init g c = (filled_none c.args.relays.now.items c.args.routes.items c.args.room.items c.into_iter-route-iterator.result.rest.items c.requires.empty c.into_iter-route-iterator.ensures.into_iter_gives.0, c.requires.room)

pub index-requires : goal.index-requires
index-requires g c =
    let low = filled_low c.args.relays.now.items c.args.routes.items c.loop-route.lanes.items c.loop-route.place c.loop-route.route-iterator.rest.items c.next.new.self.rest.items c.in-Some.route c.loop-route.invariant.0 c.in-Some.ensures.steps.0 in
    omega (arith, low, c.requires.paired, c.args.relays.now.ok.0)

pub put-requires : goal.put-requires
put-requires g c =
    let low = filled_low c.args.relays.now.items c.args.routes.items c.loop-route.lanes.items c.loop-route.place c.loop-route.route-iterator.rest.items c.next.new.self.rest.items c.in-Some.route c.loop-route.invariant.0 c.in-Some.ensures.steps.0 in
    omega (arith, low, c.loop-route.invariant.0.2, c.loop-route.invariant.1, c.loop-route.lanes.ok.0)

pub overflow_add-place : goal.overflow_add-place
overflow_add-place g c =
    let low = filled_low c.args.relays.now.items c.args.routes.items c.loop-route.lanes.items c.loop-route.place c.loop-route.route-iterator.rest.items c.next.new.self.rest.items c.in-Some.route c.loop-route.invariant.0 c.in-Some.ensures.steps.0 in
    omega (arith, low, c.args.routes.ok.0, c.args.routes.ok.1, c.args.routes.small)

pub loop-route-preserved : goal.loop-route-preserved
loop-route-preserved g c =
    let low = filled_low c.args.relays.now.items c.args.routes.items c.loop-route.lanes.items c.loop-route.place c.loop-route.route-iterator.rest.items c.next.new.self.rest.items c.in-Some.route c.loop-route.invariant.0 c.in-Some.ensures.steps.0 in
    let near : c.loop-route.place < length c.args.relays.now.items = omega (arith, low, c.requires.paired) in
    (filled_more c.args.relays.now.items c.args.routes.items c.loop-route.lanes.items c.put.new.list.items c.loop-route.place c.loop-route.route-iterator.rest.items c.next.new.self.rest.items _ c.loop-route.invariant.0 c.in-Some.ensures.steps.0 near c.index.ensures refl refl refl c.put.ensures.items, omega (arith, c.loop-route.invariant.1, c.put.ensures.room))

pub returns-clause-relays : goal.returns-clause-relays
returns-clause-relays g c =
    let none : length c.loop-route.route-iterator.rest.items ≡ 0 = omega (arith, c.loop-route.route-iterator.rest.ok.0, c.in-None.ensures.steps.0) in
    filled_relays c.args.relays.now.items c.args.routes.items c.loop-route.lanes.items c.loop-route.place c.loop-route.route-iterator.rest.items c.loop-route.invariant.0 none c.requires.paired

pub returns-clause-routes : goal.returns-clause-routes
returns-clause-routes g c =
    let none : length c.loop-route.route-iterator.rest.items ≡ 0 = omega (arith, c.loop-route.route-iterator.rest.ok.0, c.in-None.ensures.steps.0) in
    filled_routes c.args.relays.now.items c.args.routes.items c.loop-route.lanes.items c.loop-route.place c.loop-route.route-iterator.rest.items c.loop-route.invariant.0 none
