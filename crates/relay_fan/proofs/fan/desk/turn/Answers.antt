use Rattle.std.proofs.Common.{◌≡◌, ◌∙◌, rules}
use Rattle.sqlite.specs.Held.{state}
use Rattle.relay_fan.specs.steps.Slot.{IsOf}
use Rattle.relay_fan.proofs.SlotLemmas.{each_turn, of_later}
use Rattle.relay_fan.proofs.fan.desk.turn.Goals as goal

pub returns-clause-goes : goal.returns-clause-goes
returns-clause-goes g c db olds still h =
    let gate = c.args.gate.now in
    let before = state g.S.Store c.args.service.now.conn in
    let after = state g.S.Store c.renew.new.service.conn in
    let Of = IsOf g.R.Route.accepted g.R.Route.takes g.R.Route.has_failed g.G.Gate.lets g.G.Gate.shuts g.G.Gate.heard gate c.args.service.now.source c.args.service.now.base db in
    each_turn (Of before) (Of after) (of_later g.R.Route.accepted g.R.Route.takes g.R.Route.has_failed g.G.Gate.lets g.G.Gate.shuts g.G.Gate.heard gate c.args.service.now.source c.args.service.now.base db before after c.renew.ensures.service)
    olds c.args.slots.now.items c.args.place c.index_mut.result.now c.replace-slot.result c.renew.result c.replace-slot.new.dest (search rules) (c.replace-slot.ensures.value ∙ c.index_mut.ensures.value) (λ old k. c.renew.ensures.goes db old still k) h
