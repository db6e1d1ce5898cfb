use Rattle.std.proofs.Common.{◌-◌, ◌≤◌}
use Rattle.inbox.specs.steps.Rows.{probe}
use Rattle.inbox.specs.steps.Search.{SplitsLate}
use Rattle.inbox.proofs.search.late_before.Given as goal

abbrev pub invariant-loop-low : goal.invariant-loop-low
invariant-loop-low l = record {
  ordered : l.low ≤ l.high;
  splits : SplitsLate (probe l.source l.id l.text) l.arrivals l.places.late l.before l.low l.high;
}

abbrev pub decreases-loop-low : goal.decreases-loop-low
decreases-loop-low l = l.high - l.low
