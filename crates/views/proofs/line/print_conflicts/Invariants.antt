use Rattle.std.proofs.Common.{◌≡◌, take, string_bytes}
use Rattle.views.specs.Line.{conflict_lines}
use Rattle.views.proofs.line.print_conflicts.Given as goal

abbrev pub invariant-loop-i : goal.invariant-loop-i
invariant-loop-i l = string_bytes l.out ≡ conflict_lines (take l.i l.rows)
