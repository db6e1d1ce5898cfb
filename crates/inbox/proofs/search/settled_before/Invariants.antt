use Rattle.std.proofs.Common.{◌-◌, ◌≤◌}
use Rattle.inbox.specs.steps.Rows.{probe}
use Rattle.inbox.specs.steps.Search.{SplitsSettled}
use Rattle.inbox.proofs.search.settled_before.Given as goal

abbrev pub invariant-loop-low : goal.invariant-loop-low
invariant-loop-low l = record {
  ordered : l.low ≤ l.high;
  splits : SplitsSettled (probe l.source l.id l.text) l.arrivals l.places.settled l.low l.high;
}

abbrev pub decreases-loop-low : goal.decreases-loop-low
decreases-loop-low l = l.high - l.low
