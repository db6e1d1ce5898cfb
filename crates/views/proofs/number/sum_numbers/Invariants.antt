use Rattle.std.proofs.Common.{take}
use Rattle.inbox.specs.Kept.{events}
use Rattle.views.specs.Number.{Sums}
use Rattle.views.proofs.number.sum_numbers.Given as goal

abbrev pub invariant-loop-i : goal.invariant-loop-i
invariant-loop-i l = Sums (take l.i (events l.inbox)) l.summary
