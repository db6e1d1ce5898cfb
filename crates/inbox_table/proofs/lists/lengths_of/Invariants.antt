use Rattle.std.proofs.Common.{◌≡◌, ◌-◌, drop, length, map, take}
use Rattle.inbox_table.proofs.lists.lengths_of.Given as goal

abbrev pub invariant-loop-i : goal.invariant-loop-i
invariant-loop-i l = l.each ≡ map length (take (l.i - l.from) (drop l.from l.lists))
