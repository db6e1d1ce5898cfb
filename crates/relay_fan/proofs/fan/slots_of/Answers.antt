use Rattle.std.proofs.Common.{◌≡◌, ◌++◌, length, map, ap, arith, ◌∙◌, vec_capacity}
use Rattle.relay_fan.specs.declared.fan.slot.Slot.TheVariants.{Waiting}
use Rattle.relay_fan.proofs.FanLemmas.{put_more, put_room, put_low, put_all}
use Rattle.relay_fan.proofs.fan.slots_of.Goals as goal

pub loop-lane-init : goal.loop-lane-init
loop-lane-init g c =
    let all = c.into_iter-lane-iterator.ensures.into_iter_gives.0 in
    let many : length c.into_iter-lane-iterator.result.rest.items ≡ length c.args.lanes.items = ap length all in
    let none : length c.args.room.items ≡ 0 = ap length c.requires.empty in (
      ap (λ l. l ++ map Waiting c.into_iter-lane-iterator.result.rest.items) c.requires.empty ∙ ap (map Waiting) all,
      omega (arith, many, none, c.requires.room),
    )

pub put-requires : goal.put-requires
put-requires g c = omega (arith, put_low c.loop-lane.slots.items c.in-Some.lane c.loop-lane.lane-iterator.rest.items c.next.new.self.rest.items (vec_capacity c.loop-lane.slots) c.loop-lane.invariant.1 c.in-Some.ensures.steps.0, c.loop-lane.slots.ok.0)

pub loop-lane-preserved : goal.loop-lane-preserved
loop-lane-preserved g c =
    let first = c.in-Some.ensures.steps.0 in (
      put_more Waiting c.loop-lane.slots.items c.put.new.list.items c.in-Some.lane c.loop-lane.lane-iterator.rest.items c.next.new.self.rest.items _ c.loop-lane.invariant.0 first c.put.ensures.items,
      put_room c.loop-lane.slots.items c.put.new.list.items _ c.in-Some.lane c.loop-lane.lane-iterator.rest.items c.next.new.self.rest.items _ _ c.loop-lane.invariant.1 first c.put.ensures.items c.put.ensures.room,
    )

pub returns : goal.returns
returns g c =
    let none : length c.loop-lane.lane-iterator.rest.items ≡ 0 = omega (arith, c.loop-lane.lane-iterator.rest.ok.0, c.in-None.ensures.steps.0) in
    put_all Waiting c.loop-lane.slots.items c.loop-lane.lane-iterator.rest.items _ c.loop-lane.invariant.0 none
