use Rattle.std.proofs.Common.{drop, take}
use Rattle.inbox_table.specs.steps.Turns.{AreSingle}
use Rattle.inbox_table.proofs.lists.are_single.Given as goal

abbrev pub invariant-loop-i : goal.invariant-loop-i
invariant-loop-i l = AreSingle (take l.i (drop l.from l.lists))
