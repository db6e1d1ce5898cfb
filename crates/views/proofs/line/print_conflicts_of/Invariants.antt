use Rattle.std.proofs.Common.{◌≡◌, take, string_bytes}
use Rattle.inbox.specs.Conflicts.{conflicts_of}
use Rattle.inbox.specs.Kept.{events}
use Rattle.views.specs.Line.{conflict_lines}
use Rattle.views.proofs.line.print_conflicts_of.Given as goal

abbrev pub invariant-loop-i : goal.invariant-loop-i
invariant-loop-i l = string_bytes l.out ≡ conflict_lines (conflicts_of (events l.inbox) (take l.i (events l.inbox)))
