use Rattle.std.proofs.Common.{◌≡◌, map, take, string_bytes}
use Rattle.views.specs.Line.{event_lines}
use Rattle.views.proofs.line.print_lent.Given as goal

abbrev pub invariant-loop-event : goal.invariant-loop-event
invariant-loop-event l = string_bytes l.out ≡ event_lines (map (λ e. e.now) (take l.event-index l.events))
