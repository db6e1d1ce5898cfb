use Rattle.std.proofs.Common.{◌≡◌, take, string_bytes}
use Rattle.views.specs.Line.{event_lines}
use Rattle.views.proofs.line.print_events.Given as goal

abbrev pub invariant-loop-i : goal.invariant-loop-i
invariant-loop-i l = string_bytes l.out ≡ event_lines (take l.i l.events)
