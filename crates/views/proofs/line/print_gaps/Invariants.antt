use Rattle.std.proofs.Common.{◌≡◌, take, string_bytes}
use Rattle.views.specs.Line.{gap_lines}
use Rattle.views.proofs.line.print_gaps.Given as goal

abbrev pub invariant-loop-i : goal.invariant-loop-i
invariant-loop-i l = string_bytes l.out ≡ gap_lines (take l.i l.gaps)
