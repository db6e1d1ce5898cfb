use Rattle.relay_fan.proofs.LaneLemmas.{carries_none, carries_then}
use Rattle.relay_fan.proofs.fan.lane.carry_lane.Goals as goal

pub pages-preserved : goal.pages-preserved
pages-preserved g c =
    let gate = c.args.gate.now in
    carries_then g.R.Route.accepted g.R.Route.takes g.R.Route.has_failed (g.G.Gate.lets gate) (g.G.Gate.shuts gate) (g.G.Gate.heard gate) c.args.start c.args.rows.now c.args.lane c.pages.lane c.send_next-lane.result c.pages.invariant c.send_next-lane.ensures.carried

pub pages-init : goal.pages-init
pages-init g c =
    let gate = c.args.gate.now in
    carries_none g.R.Route.accepted g.R.Route.takes g.R.Route.has_failed (g.G.Gate.lets gate) (g.G.Gate.shuts gate) (g.G.Gate.heard gate) c.args.start c.args.rows.now c.args.lane
