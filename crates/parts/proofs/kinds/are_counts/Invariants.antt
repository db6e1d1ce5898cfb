use Rattle.std.proofs.Common.{take}
use Rattle.attributes.specs.Bytes.{byte_cmp}
use Rattle.parts.specs.Counts.{AreCounts}
use Rattle.parts.proofs.kinds.are_counts.Given as goal

abbrev pub invariant-loop-i : goal.invariant-loop-i
invariant-loop-i l = AreCounts byte_cmp (take l.i l.rows)
