use Rattle.std.proofs.Common.{◌≡◌, ◌∙◌, refl, rules, arith}
use Rattle.sqlite.specs.Held.{state}
use Rattle.relay.proofs.ReadLemmas.{same_none, same_then}
use Rattle.relay_fan.proofs.ReadLemmas.{still_then}
use Rattle.relay_fan.proofs.SlotLemmas.{turned}
use Rattle.relay_fan.proofs.fan.desk.run.Goals as goal

pub loop-init : goal.loop-init
loop-init g c = ((refl, refl, refl), same_none _, refl, λ db olds still h. h)

pub returns-in_default-clause-kept_service : goal.returns-in_default-clause-kept_service
returns-in_default-clause-kept_service g c = c.loop.invariant.0

pub returns-in_default-clause-service : goal.returns-in_default-clause-service
returns-in_default-clause-service g c = c.loop.invariant.1

pub returns-in_default-clause-ended : goal.returns-in_default-clause-ended
returns-in_default-clause-ended g c = c.next_place.ensures.none (search rules)

pub returns-in_default-clause-goes : goal.returns-in_default-clause-goes
returns-in_default-clause-goes g c = c.loop.invariant.3

pub index-requires : goal.index-requires
index-requires g c = omega (arith, c.in-Some-next_place.ensures.some, c.loop.invariant.2, c.requires)

pub loop-preserved : goal.loop-preserved
loop-preserved g c =
    let was = c.loop.invariant in
    let is = c.turn.ensures.kept_service in
    let first = state g.S.Store c.args.service.now.conn in
    let before = state g.S.Store c.loop.service.conn in
    let after = state g.S.Store c.turn.new.service.conn in (
      (is.0 ∙ was.0.0, is.1 ∙ was.0.1, is.2 ∙ was.0.2),
      same_then first before after was.1 c.turn.ensures.service,
      c.turn.ensures.many ∙ was.2,
      λ db olds still h. turned g.R.Route.accepted g.R.Route.takes g.R.Route.has_failed g.G.Gate.lets g.G.Gate.shuts g.G.Gate.heard c.args.gate.now c.args.service.now.source c.loop.service.source c.args.service.now.base c.loop.service.base db before after olds c.loop.slots.items c.turn.new.slots.items was.0.0 was.0.1
          (c.turn.ensures.goes db olds (still_then db first before still was.1)) (was.3 db olds still h),
    )
