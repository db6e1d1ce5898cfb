use Rattle.std.proofs.Common.{◌≡◌, refl}
use Rattle.relay_fan.proofs.LaneLemmas.{carries_quiet}
use Rattle.relay_fan.proofs.fan.lane.stopped.Goals as goal

pub returns-clause-carried : goal.returns-clause-carried
returns-clause-carried g c start rows =
    let gate = c.args.gate.now in
    carries_quiet g.R.Route.accepted g.R.Route.takes g.R.Route.has_failed (g.G.Gate.lets gate) (g.G.Gate.shuts gate) (g.G.Gate.heard gate) start rows c.args.lane _ c.args.fault c.requires.going c.requires.quiet refl refl refl refl
