use Rattle.std.proofs.Common.{◌≡◌, ◌++◌, ◌∷◌, [], length, map, ap, arith, ◌∙◌, vec_capacity}
use Rattle.relay_fan.specs.steps.Lane.{end_of_lane}
use Rattle.relay_fan.specs.declared.fan.lane.Lane.{Lane}
use Rattle.relay_fan.proofs.FanLemmas.{put_more, put_room, put_low, put_all}
use Rattle.relay_fan.proofs.fan.settle.Goals as goal

pub loop-lane-init : goal.loop-lane-init
loop-lane-init g c =
    let all = c.into_iter-lane-iterator.ensures.into_iter_gives.0 in
    let many : length c.into_iter-lane-iterator.result.rest.items ≡ length c.args.lanes.items = ap length all in
    let none-0 : length c.args.relays.now.items ≡ 0 = ap length c.requires.empty.0 in
    let none-1 : length c.args.routes.items ≡ 0 = ap length c.requires.empty.1 in
    let none-2 : length c.args.ends.items ≡ 0 = ap length c.requires.empty.2 in (
      ap (λ l. l ++ map (λ (x : Lane g.row.R.Denot). x.relay) c.into_iter-lane-iterator.result.rest.items) c.requires.empty.0 ∙ ap (map (λ (x : Lane g.row.R.Denot). x.relay)) all,
      ap (λ l. l ++ map (λ (x : Lane g.row.R.Denot). x.route) c.into_iter-lane-iterator.result.rest.items) c.requires.empty.1 ∙ ap (map (λ (x : Lane g.row.R.Denot). x.route)) all,
      ap (λ l. l ++ map end_of_lane c.into_iter-lane-iterator.result.rest.items) c.requires.empty.2 ∙ ap (map end_of_lane) all,
      omega (arith, many, none-0, c.requires.room.0),
      omega (arith, many, none-1, c.requires.room.1),
      omega (arith, many, none-2, c.requires.room.2),
    )

pub put-requires : goal.put-requires
put-requires g c = omega (arith, put_low c.loop-lane.ends.items c.in-Some.lane c.loop-lane.lane-iterator.rest.items c.next.new.self.rest.items (vec_capacity c.loop-lane.ends) c.loop-lane.invariant.5 c.in-Some.ensures.steps.0, c.loop-lane.ends.ok.0)

pub put-requires-in-loop-lane : goal.put-requires-in-loop-lane
put-requires-in-loop-lane g c = omega (arith, put_low c.loop-lane.relays.items c.in-Some.lane c.loop-lane.lane-iterator.rest.items c.next.new.self.rest.items (vec_capacity c.loop-lane.relays) c.loop-lane.invariant.3 c.in-Some.ensures.steps.0, c.loop-lane.relays.ok.0)

pub put-requires-in-loop-lane-2 : goal.put-requires-in-loop-lane-2
put-requires-in-loop-lane-2 g c = omega (arith, put_low c.loop-lane.routes.items c.in-Some.lane c.loop-lane.lane-iterator.rest.items c.next.new.self.rest.items (vec_capacity c.loop-lane.routes) c.loop-lane.invariant.4 c.in-Some.ensures.steps.0, c.loop-lane.routes.ok.0)

pub loop-lane-preserved : goal.loop-lane-preserved
loop-lane-preserved g c =
    let first = c.in-Some.ensures.steps.0 in
    let rest = c.loop-lane.lane-iterator.rest.items in
    let left = c.next.new.self.rest.items in
    let ended : c.put.new.list.items ≡ c.loop-lane.ends.items ++ end_of_lane c.in-Some.lane ∷ [] = c.put.ensures.items ∙ ap (λ e. c.loop-lane.ends.items ++ e ∷ []) c.end_at.ensures in (
      put_more (λ (x : Lane g.row.R.Denot). x.relay) c.loop-lane.relays.items c.put-in-loop-lane.new.list.items c.in-Some.lane rest left _ c.loop-lane.invariant.0 first c.put-in-loop-lane.ensures.items,
      put_more (λ (x : Lane g.row.R.Denot). x.route) c.loop-lane.routes.items c.put-in-loop-lane-2.new.list.items c.in-Some.lane rest left _ c.loop-lane.invariant.1 first c.put-in-loop-lane-2.ensures.items,
      put_more end_of_lane c.loop-lane.ends.items c.put.new.list.items c.in-Some.lane rest left _ c.loop-lane.invariant.2 first ended,
      put_room c.loop-lane.relays.items c.put-in-loop-lane.new.list.items _ c.in-Some.lane rest left _ _ c.loop-lane.invariant.3 first c.put-in-loop-lane.ensures.items c.put-in-loop-lane.ensures.room,
      put_room c.loop-lane.routes.items c.put-in-loop-lane-2.new.list.items _ c.in-Some.lane rest left _ _ c.loop-lane.invariant.4 first c.put-in-loop-lane-2.ensures.items c.put-in-loop-lane-2.ensures.room,
      put_room c.loop-lane.ends.items c.put.new.list.items _ c.in-Some.lane rest left _ _ c.loop-lane.invariant.5 first c.put.ensures.items c.put.ensures.room,
    )

pub returns-clause-relays : goal.returns-clause-relays
returns-clause-relays g c =
    let none : length c.loop-lane.lane-iterator.rest.items ≡ 0 = omega (arith, c.loop-lane.lane-iterator.rest.ok.0, c.in-None.ensures.steps.0) in
    put_all (λ (x : Lane g.row.R.Denot). x.relay) c.loop-lane.relays.items c.loop-lane.lane-iterator.rest.items _ c.loop-lane.invariant.0 none

pub returns-clause-routes : goal.returns-clause-routes
returns-clause-routes g c =
    let none : length c.loop-lane.lane-iterator.rest.items ≡ 0 = omega (arith, c.loop-lane.lane-iterator.rest.ok.0, c.in-None.ensures.steps.0) in
    put_all (λ (x : Lane g.row.R.Denot). x.route) c.loop-lane.routes.items c.loop-lane.lane-iterator.rest.items _ c.loop-lane.invariant.1 none

pub returns-clause-ends : goal.returns-clause-ends
returns-clause-ends g c =
    let none : length c.loop-lane.lane-iterator.rest.items ≡ 0 = omega (arith, c.loop-lane.lane-iterator.rest.ok.0, c.in-None.ensures.steps.0) in
    put_all end_of_lane c.loop-lane.ends.items c.loop-lane.lane-iterator.rest.items _ c.loop-lane.invariant.2 none
