use Rattle.std.proofs.Common.{take}
use Rattle.std.specs.List.{AllByRecursion}
use Rattle.inbox_table.specs.Calls.{joined}
use Rattle.numbers.specs.Counts.{HasText}
use Rattle.number_table.proofs.lists.are_known.Given as goal

abbrev pub invariant-loop-i : goal.invariant-loop-i
invariant-loop-i l = AllByRecursion (HasText l.known) (joined (take l.i l.lists))
