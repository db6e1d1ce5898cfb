use Rattle.std.proofs.Common.{◌≡◌, ◌+◌, ◌++◌, map, ap, refl, ◌∙◌, arith}
use Rattle.serde_json.specs.View.{view}
use Rattle.event_json.specs.Faulty.{faulty, fault_of_numbered, member_of}
use Rattle.event_json.proofs.FaultyLemmas.{first_given, quiet_step, told_step}
use Rattle.event_json.proofs.faulty.tell.Goals as goal

pub loop-place-preserved-in-Continue-1 : goal.loop-place-preserved-in-Continue-1
loop-place-preserved-in-Continue-1 c is =
    let kept = c.loop-place.invariant is in
    let rest = c.next.new.self.iter.rest.items in
    let source = c.in-Some.ensures.steps.0.0 in
    let count = c.in-Some.ensures.steps.2 in
    let next : c.args.first + c.next.new.self.count ≡ (c.args.first + c.loop-place.place-iterator.count) + 1 = omega (arith, count) in
    let given = first_given c.next-in-loop-place.result c.loop-place.faults.rest.items c.next-in-loop-place.new.self.rest.items (map fault_of_numbered (map view rest)) (fault_of_numbered (view c.in-Some.tree)) c.loop-place.faults.rest.len c.loop-place.faults.rest.ok.0 c.next-in-loop-place.ensures.variant.1 c.next-in-loop-place.ensures.items (kept.0 ∙ ap (λ l. map fault_of_numbered (map view l)) source) in (
      given.1,
      told_step (c.args.first + c.loop-place.place-iterator.count) (c.args.first + c.next.new.self.count) c.loop-place.told.items c.push.new.self.items (record { index = c.args.first + c.in-Some.place; fault = c.in-Some-flatten.fault; tree = c.in-Some.tree }) c.in-Some.tree
          c.loop-place.place-iterator.iter.rest.items rest c.flatten.result (map member_of c.args.told.now.items ++ faulty c.args.first (map view c.args.trees.items))
          source next (c.flatten.ensures ∙ given.0) c.in-Some-flatten.is (ap (λ k. c.args.first + k) c.in-Some.ensures.steps.1) refl c.in_ok-push.ensures.items kept.1,
    )

pub loop-place-preserved-in_default-3 : goal.loop-place-preserved-in_default-3
loop-place-preserved-in_default-3 c is =
    let kept = c.loop-place.invariant is in
    let rest = c.next.new.self.iter.rest.items in
    let source = c.in-Some.ensures.steps.0.0 in
    let count = c.in-Some.ensures.steps.2 in
    let next : c.args.first + c.next.new.self.count ≡ (c.args.first + c.loop-place.place-iterator.count) + 1 = omega (arith, count) in
    let given = first_given c.next-in-loop-place.result c.loop-place.faults.rest.items c.next-in-loop-place.new.self.rest.items (map fault_of_numbered (map view rest)) (fault_of_numbered (view c.in-Some.tree)) c.loop-place.faults.rest.len c.loop-place.faults.rest.ok.0 c.next-in-loop-place.ensures.variant.1 c.next-in-loop-place.ensures.items (kept.0 ∙ ap (λ l. map fault_of_numbered (map view l)) source) in (
      given.1,
      quiet_step (c.args.first + c.loop-place.place-iterator.count) (c.args.first + c.next.new.self.count) c.loop-place.told.items c.in-Some.tree
          c.loop-place.place-iterator.iter.rest.items rest c.flatten.result (map member_of c.args.told.now.items ++ faulty c.args.first (map view c.args.trees.items))
          source next (c.flatten.ensures ∙ given.0) c.in_default.not-Some kept.1,
    )
