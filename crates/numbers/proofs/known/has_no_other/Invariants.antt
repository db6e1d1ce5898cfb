use Rattle.std.proofs.Common.{take}
use Rattle.std.specs.List.{AllByRecursion}
use Rattle.numbers.specs.Numbered.{HasNoOther}
use Rattle.numbers.proofs.known.has_no_other.Given as goal

abbrev pub invariant-loop-i : goal.invariant-loop-i
invariant-loop-i l = AllByRecursion (HasNoOther l.number l.event) (take l.i l.rows)
