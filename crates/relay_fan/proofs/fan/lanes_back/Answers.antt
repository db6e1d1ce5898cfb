use Rattle.std.proofs.Common.{◌≡◌, ◌++◌, ◌∷◌, length, map, ap, arith, ◌∙◌, vec_capacity}
use Rattle.relay_fan.specs.steps.Slot.{IsEnded}
use Rattle.relay_fan.specs.declared.fan.slot.Slot.TheVariants.{Ended}
use Rattle.relay_fan.proofs.FanLemmas.{ended_low, ended_more, ended_all, put_room, put_low}
use Rattle.relay_fan.proofs.fan.lanes_back.Goals as goal

pub loop-slot-init : goal.loop-slot-init
loop-slot-init g c =
    let all = c.into_iter-slot-iterator.ensures.into_iter_gives.0 in
    let many : length c.into_iter-slot-iterator.result.rest.items ≡ length c.args.slots.items = ap length all in
    let none : length c.args.room.items ≡ 0 = ap length c.requires.empty in (
      ap (λ l. map Ended l ++ c.into_iter-slot-iterator.result.rest.items) c.requires.empty ∙ all,
      omega (arith, many, none, c.requires.room),
    )

pub put-requires : goal.put-requires
put-requires g c = omega (arith, put_low c.loop-slot.lanes.items c.in-Some.slot c.loop-slot.slot-iterator.rest.items c.next.new.self.rest.items (vec_capacity c.loop-slot.lanes) c.loop-slot.invariant.1 c.in-Some.ensures.steps.0, c.loop-slot.lanes.ok.0)

pub returns : goal.returns
returns g c =
    let none : length c.loop-slot.slot-iterator.rest.items ≡ 0 = omega (arith, c.loop-slot.slot-iterator.rest.ok.0, c.in-None.ensures.steps.0) in
    ended_all c.loop-slot.lanes.items c.loop-slot.slot-iterator.rest.items _ c.loop-slot.invariant.0 none

pub unreachable-requires : goal.unreachable-requires
unreachable-requires g c =
    let e : IsEnded c.in-Some.slot = ended_low c.loop-slot.lanes.items c.loop-slot.slot-iterator.rest.items c.next.new.self.rest.items c.args.slots.items c.in-Some.slot c.loop-slot.invariant.0 c.in-Some.ensures.steps.0 c.requires.ended in
    c.in_default.not-Ended e.0 e.1

pub loop-slot-preserved : goal.loop-slot-preserved
loop-slot-preserved g c =
    let first = c.in-Some.ensures.steps.0 in (
      ended_more c.loop-slot.lanes.items c.put.new.list.items c.loop-slot.slot-iterator.rest.items c.next.new.self.rest.items c.args.slots.items c.in-Ended.lane c.loop-slot.invariant.0 (first ∙ ap (λ s. s ∷ c.next.new.self.rest.items) c.in-Ended.is) c.put.ensures.items,
      put_room c.loop-slot.lanes.items c.put.new.list.items _ c.in-Some.slot c.loop-slot.slot-iterator.rest.items c.next.new.self.rest.items _ _ c.loop-slot.invariant.1 first c.put.ensures.items c.put.ensures.room,
    )
