use Rattle.std.proofs.Common.{Some, take}
use Rattle.number_lines.specs.Judged.{AreOwn}
use Rattle.number_lines.proofs.turn.own_each.Given as goal

abbrev pub invariant-loop-i : goal.invariant-loop-i
invariant-loop-i l = AreOwn (Some l.name) (take l.i l.given) l.events
