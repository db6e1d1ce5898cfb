use Rattle.std.proofs.Common.{◌≡◌, ◌++◌}
use Rattle.parts.proofs.lines.append.Given as goal

abbrev pub invariant-loop-row : goal.invariant-loop-row
invariant-loop-row g l = l.all ++ l.row-iterator.rest.items ≡ l.fn.all ++ l.fn.more
