use Rattle.std.proofs.Common.{take}
use Rattle.std.specs.List.{AllByRecursion}
use Rattle.numbers.specs.Counts.{HasText}
use Rattle.numbers.proofs.known.Known.has_all.Given as goal

abbrev pub invariant-loop-i : goal.invariant-loop-i
invariant-loop-i l = AllByRecursion (HasText l.self) (take l.i l.events)
