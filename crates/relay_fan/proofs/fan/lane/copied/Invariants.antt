use Rattle.std.proofs.Common.{◌≡◌, ◌≤◌}
use Rattle.relay.specs.Route.{AreIn}
use Rattle.relay_fan.specs.Fan.{AreSent, rows_between}
use Rattle.relay_fan.proofs.fan.lane.copied.Given as goal

abbrev pub invariant-loop-i : goal.invariant-loop-i
invariant-loop-i l = (AreSent 0 l.rows l.fn.from l.i l.page × AreIn l.page l.rows)
    × ((l.page ≡ rows_between 0 l.rows l.fn.from l.i) × (l.fn.from ≤ l.i))
