use Rattle.std.proofs.Common.{◌≡◌, ◌∙◌, List, ap, arith, inr, length, map, sym}
use Rattle.std.proofs.lemmas.List.{length-map}
use Rattle.std.proofs.lemmas.Grind.{common_steps}
use Rattle.sqlite.specs.Held.{state}
use Rattle.relay_fan.specs.steps.Lane.{end_of_lane}
use Rattle.relay_fan.specs.declared.fan.lane.Lane.{Lane}
use Rattle.relay_fan.specs.declared.fan.slot.Slot.{Slot}
use Rattle.relay_fan.specs.declared.fan.slot.Slot.TheVariants.{Ended, Waiting}
use Rattle.relay_fan.proofs.FanLemmas.{fan_leaves, fan_delivers}
use Rattle.relay_fan.proofs.SlotLemmas.{fan_many, fan_rests}
use Rattle.relay_fan.proofs.fan.fan_out.Goals as goal

-- as many lanes as routes
counted : {R : Type 0} (lanes : List (Lane R)) (routes : List R) → map (λ l. l.route) lanes ≡ routes → length lanes ≡ length routes
counted lanes routes are = sym (length-map lanes (λ l. l.route)) ∙ ap length are

-- and as many come back
back_again : {R G : Type 0} (lanes news : List (Lane R)) (routes : List R) (last : List (Slot R G)) → map (λ l. l.route) lanes ≡ routes → map Ended news ≡ last → length last ≡ length lanes → length news ≡ length routes
back_again lanes news routes last are ended many = sym (length-map news Ended) ∙ ap length ended ∙ many ∙ counted lanes routes are

pub slots_of-slots-requires-clause-room : goal.slots_of-slots-requires-clause-room
slots_of-slots-requires-clause-room g c =
    let count = counted c.lanes_of-lanes.result.items c.args.routes.items c.lanes_of-lanes.ensures.routes in
    omega (arith, count, c.len.ensures, c.in-Some.ensures.room.1)

pub run_slots-slots-requires : goal.run_slots-slots-requires
run_slots-slots-requires g c =
    let count = counted c.lanes_of-lanes.result.items c.args.routes.items c.lanes_of-lanes.ensures.routes in
    let many : length c.slots_of-slots.result.items ≡ length c.lanes_of-lanes.result.items = ap length c.slots_of-slots.ensures ∙ length-map c.lanes_of-lanes.result.items Waiting in
    let flags : length c.slots_of-slots.result.items ≡ length c.in-Some.room.shared.refused.items = omega (arith, count, many, c.len.ensures, c.in-Some.ensures.shared) in
    (c.type_bounds.send-R, (c.type_bounds.sync-H, (c.type_bounds.sync-G, flags)))

pub lanes_back-lanes-requires-clause-room : goal.lanes_back-lanes-requires-clause-room
lanes_back-lanes-requires-clause-room g c =
    let count = counted c.lanes_of-lanes.result.items c.args.routes.items c.lanes_of-lanes.ensures.routes in
    let many = fan_many g.R.Route.accepted g.R.Route.takes g.R.Route.has_failed g.G.Gate.lets g.G.Gate.shuts g.G.Gate.heard c.args.gate.now c.args.service.now.source c.args.service.now.base _ _ _ c.lanes_of-lanes.result.items c.slots_of-slots.result.items c.run_slots-slots.result.items c.slots_of-slots.ensures (c.run_slots-slots.ensures.goes c.lanes_of-lanes.result.items) in
    omega (arith, count, many, c.len.ensures, c.in-Some.ensures.room.2)

pub returns : goal.returns
returns g c =
    let gate = c.args.gate.now in
    let olds = c.lanes_of-lanes.result.items in
    let news = c.lanes_back-lanes.result.items in
    let before = state g.S.Store c.args.service.now.conn in
    let after = state g.S.Store c.run_slots-slots.new.service.conn in
    let lanes = c.lanes_back-lanes.result.items in
    let count = back_again c.lanes_of-lanes.result.items c.lanes_back-lanes.result.items c.args.routes.items c.run_slots-slots.result.items c.lanes_of-lanes.ensures.routes c.lanes_back-lanes.ensures
    (fan_many g.R.Route.accepted g.R.Route.takes g.R.Route.has_failed g.G.Gate.lets g.G.Gate.shuts g.G.Gate.heard c.args.gate.now c.args.service.now.source c.args.service.now.base _ _ _ c.lanes_of-lanes.result.items c.slots_of-slots.result.items c.run_slots-slots.result.items c.slots_of-slots.ensures (c.run_slots-slots.ensures.goes c.lanes_of-lanes.result.items)) in
    let ends : length c.settle.result.ends.items ≡ length c.args.routes.items = ap length c.settle.ensures.ends ∙ (length-map lanes end_of_lane ∙ count) in
    record {
      each = fan_leaves g.R.Route.accepted g.R.Route.takes g.R.Route.has_failed (g.G.Gate.lets gate) (g.G.Gate.shuts gate) (g.G.Gate.heard gate) c.args.service.now.source c.args.service.now.base before.now after olds news c.args.relays.now.items c.settle.new.relays.items c.args.routes.items c.settle.result.routes.items c.settle.result.ends.items
          c.lanes_of-lanes.ensures.fresh c.lanes_of-lanes.ensures.placed
          (fan_rests g.R.Route.accepted g.R.Route.takes g.R.Route.has_failed g.G.Gate.lets g.G.Gate.shuts g.G.Gate.heard gate c.args.service.now.source c.args.service.now.base before.now before after olds news c.slots_of-slots.result.items c.run_slots-slots.result.items c.slots_of-slots.ensures c.lanes_back-lanes.ensures (c.run_slots-slots.ensures.goes olds))
          c.lanes_of-lanes.ensures.relays c.settle.ensures.relays c.lanes_of-lanes.ensures.routes c.settle.ensures.routes c.settle.ensures.ends;
      sent = λ clean commands is. fan_delivers g.R.Route.accepted g.R.Route.takes g.R.Route.has_failed (g.G.Gate.lets gate) (g.G.Gate.shuts gate) (g.G.Gate.heard gate) c.args.service.now.source c.args.service.now.base before.now after commands olds news c.args.relays.now.items c.settle.new.relays.items c.args.routes.items c.settle.result.routes.items c.settle.result.ends.items
          clean is c.lanes_of-lanes.ensures.fresh c.lanes_of-lanes.ensures.placed
          (fan_rests g.R.Route.accepted g.R.Route.takes g.R.Route.has_failed g.G.Gate.lets g.G.Gate.shuts g.G.Gate.heard gate c.args.service.now.source c.args.service.now.base before.now before after olds news c.slots_of-slots.result.items c.run_slots-slots.result.items c.slots_of-slots.ensures c.lanes_back-lanes.ensures (c.run_slots-slots.ensures.goes olds))
          c.lanes_of-lanes.ensures.relays c.settle.ensures.relays c.lanes_of-lanes.ensures.routes c.settle.ensures.routes c.settle.ensures.ends;
      kept_service = grind (arith, common_steps);
      service = grind (arith, common_steps);
      back = let count = back_again c.lanes_of-lanes.result.items c.lanes_back-lanes.result.items c.args.routes.items c.run_slots-slots.result.items c.lanes_of-lanes.ensures.routes c.lanes_back-lanes.ensures
          (fan_many g.R.Route.accepted g.R.Route.takes g.R.Route.has_failed g.G.Gate.lets g.G.Gate.shuts g.G.Gate.heard c.args.gate.now c.args.service.now.source c.args.service.now.base _ _ _ c.lanes_of-lanes.result.items c.slots_of-slots.result.items c.run_slots-slots.result.items c.slots_of-slots.ensures (c.run_slots-slots.ensures.goes c.lanes_of-lanes.result.items)) in (
            ap length c.settle.ensures.relays ∙ (length-map lanes (λ l. l.relay) ∙ (count ∙ sym c.requires.paired)),
            ap length c.settle.ensures.routes ∙ (length-map lanes (λ l. l.route) ∙ count),
          );
      ends = inr (ap length c.settle.ensures.ends ∙ (length-map lanes end_of_lane ∙ count));
      not_begun = λ none. absurd (omega (arith, sym ends ∙ ap length none, c.requires.few.0));
    }

pub returns-in_default : goal.returns-in_default
returns-in_default g c =
    record {
      kept_service = grind (arith, common_steps);
      service = grind (arith, common_steps);
      back = grind (arith, common_steps);
      ends = grind (arith, common_steps);
      not_begun = grind (arith, common_steps);
      each = grind (arith, common_steps);
      sent = grind (arith, common_steps);
    }

pub settle-requires-clause-room : goal.settle-requires-clause-room
settle-requires-clause-room g c =
    let count = back_again c.lanes_of-lanes.result.items c.lanes_back-lanes.result.items c.args.routes.items c.run_slots-slots.result.items c.lanes_of-lanes.ensures.routes c.lanes_back-lanes.ensures
    (fan_many g.R.Route.accepted g.R.Route.takes g.R.Route.has_failed g.G.Gate.lets g.G.Gate.shuts g.G.Gate.heard c.args.gate.now c.args.service.now.source c.args.service.now.base _ _ _ c.lanes_of-lanes.result.items c.slots_of-slots.result.items c.run_slots-slots.result.items c.slots_of-slots.ensures (c.run_slots-slots.ensures.goes c.lanes_of-lanes.result.items)) in (
      omega (arith, count, c.requires.paired, c.args.relays.now.ok.0, c.clear.ensures.capacity),
      omega (arith, count, c.len.ensures, c.in-Some.ensures.room.3),
      omega (arith, count, c.len.ensures, c.in-Some.ensures.room.4),
    )
