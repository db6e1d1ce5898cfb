use Rattle.std.proofs.Common.{◌≤◌, ◌+◌, ◌*◌, List, length}
use Rattle.std.specs.Prelude.{None}
use Rattle.site.specs.declared.call.Call.{Call}
use Rattle.feeds.specs.Pull.{HoldsEach, replied}
use Rattle.feeds.specs.steps.Gate.{GoesThrough}
use Rattle.feeds.specs.steps.Pull.{Pulling}
use Rattle.feeds.proofs.pulling.pull_pages.Given as goal

abbrev pub invariant-loop-page : goal.invariant-loop-page
invariant-loop-page g l = (m : List Call) × (n : List Call) × g.D.Desk.went l.initial.from l.from m × g.E.Desk.went l.initial.to l.to n
    × Pulling l.peer m n l.tally × HoldsEach (g.E.Desk.arrivals l.to) (replied m) × (l.tally.fresh + l.tally.repeated ≤ 100 * l._page)
    × GoesThrough (g.G.Gate.lets l.gate) (g.G.Gate.shuts l.gate) (g.G.Gate.heard l.gate) l.worker 1 (length m + length n) l.tally.calls None
    × (l.tally.calls ≤ 1 + 2 * l._page)
