use Rattle.std.proofs.Common.{take}
use Rattle.views.specs.Tally.{day_cmp}
use Rattle.parts.specs.Counts.{AreCounts}
use Rattle.parts.proofs.days.are_counts.Given as goal

abbrev pub invariant-loop-i : goal.invariant-loop-i
invariant-loop-i l = AreCounts day_cmp (take l.i l.rows)
