use Rattle.std.proofs.Common.{◌≡◌, take}
use Rattle.coverage.proofs.intervals.Intervals.of_pairs.Given as goal

abbrev pub invariant-loop-interval : goal.invariant-loop-interval
invariant-loop-interval l = l.starts.entries ≡ take l.interval-index l.pairs
