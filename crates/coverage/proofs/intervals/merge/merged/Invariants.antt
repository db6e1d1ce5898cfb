use Rattle.std.proofs.Common.{◌+◌, ◌-◌, length}
use Rattle.coverage.proofs.MergeLemmas.{IsMergedUpTo}
use Rattle.coverage.proofs.intervals.merge.merged.Given as goal

abbrev pub invariant-loop-i : goal.invariant-loop-i
invariant-loop-i l = IsMergedUpTo l.xs l.ys l.i l.j l.both.items

abbrev pub decreases-loop-i : goal.decreases-loop-i
decreases-loop-i l = (length l.xs - l.i) + (length l.ys - l.j)
