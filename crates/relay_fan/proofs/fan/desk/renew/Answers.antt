use Rattle.std.proofs.Common.{◌≡◌, subst, sym}
use Rattle.sqlite.specs.Held.{state}
use Rattle.relay_fan.specs.steps.Slot.{IsOf}
use Rattle.relay_fan.proofs.SlotLemmas.{landed}
use Rattle.relay_fan.proofs.fan.desk.renew.Goals as goal

pub returns-in-Ok-clause-goes : goal.returns-in-Ok-clause-goes
returns-in-Ok-clause-goes g c db old still h =
    c.advance.ensures.goes db old still (landed g.R.Route.accepted g.R.Route.takes g.R.Route.has_failed g.G.Gate.lets g.G.Gate.shuts g.G.Gate.heard c.args.gate.now c.args.service.now.source c.args.service.now.base db (state g.S.Store c.args.service.now.conn) old c.in-Ok.lane c.args.slot h c.in-Ok.ensures.back)
