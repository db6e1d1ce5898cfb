use Rattle.std.proofs.Common.{◌≡◌, ◌+◌, ◌<◌, ◌≤◌, ◌++◌, List, length}
use Rattle.std.specs.Prelude.{None}
use Rattle.attributes.specs.Event.{EventValue}
use Rattle.site.specs.declared.call.Call.{Call}
use Rattle.feeds.specs.steps.Gate.{GoesThrough}
use Rattle.feeds.specs.steps.Tally.{Going}
use Rattle.feeds.proofs.feeding.hand_over.Given as goal

abbrev pub invariant-loop-event : goal.invariant-loop-event
invariant-loop-event g l = (passed : List EventValue) × (m : List Call) × (passed ++ l.event-iterator.rest.items ≡ l.fn.events)
    × g.D.Desk.went l.fn.desk l.desk m × Going passed m l.batch l.tally × (length l.batch < 100)
    × GoesThrough (g.G.Gate.lets l.fn.gate) (g.G.Gate.shuts l.fn.gate) (g.G.Gate.heard l.fn.gate) l.fn.worker 0 (length m) l.tally.calls None
    × (l.tally.calls + length l.batch ≤ length passed)
