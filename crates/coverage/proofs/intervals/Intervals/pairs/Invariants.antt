use Rattle.std.proofs.Common.{◌≡◌, ◌++◌}
use Rattle.coverage.proofs.intervals.Intervals.pairs.Given as goal

abbrev pub invariant-loop-first : goal.invariant-loop-first
invariant-loop-first l = l.pairs.items ++ l.first-iterator ≡ l.self
