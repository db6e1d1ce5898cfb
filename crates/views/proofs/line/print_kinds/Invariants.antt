use Rattle.std.proofs.Common.{◌≡◌, take, string_bytes}
use Rattle.views.specs.Line.{kind_lines}
use Rattle.views.proofs.line.print_kinds.Given as goal

abbrev pub invariant-loop-i : goal.invariant-loop-i
invariant-loop-i l = string_bytes l.out ≡ kind_lines (take l.i l.kinds)
