use Rattle.std.proofs.Common.{◌≡◌, ◌++◌, take}
use Rattle.inbox_table.proofs.lists.append.Given as goal

abbrev pub invariant-loop-i : goal.invariant-loop-i
invariant-loop-i l = l.each ≡ l.fn.each ++ take l.i l.more
