use Rattle.std.proofs.Common.{take, string_bytes}
use Rattle.views.specs.Line.{AreDayLines}
use Rattle.parts.proofs.days.print_days.Given as goal

abbrev pub invariant-loop-i : goal.invariant-loop-i
invariant-loop-i l = AreDayLines (take l.i l.rows) (string_bytes l.out)
