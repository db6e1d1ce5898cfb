use Rattle.relay_fan.specs.steps.Lane.{Carries, left}
use Rattle.relay_fan.proofs.fan.lane.carry_lane.Given as goal

abbrev pub invariant-pages : goal.invariant-pages
invariant-pages g l = Carries g.R.Route.accepted g.R.Route.takes g.R.Route.has_failed (g.G.Gate.lets l.gate)
    (g.G.Gate.shuts l.gate) (g.G.Gate.heard l.gate) l.start l.rows l.initial.lane l.lane

abbrev pub decreases-pages : goal.decreases-pages
decreases-pages g l = left l.start l.rows l.lane
