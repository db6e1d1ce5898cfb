use Rattle.std.proofs.Common.{◌≡◌, ◌+◌, ◌<◌, length, drop}
use Rattle.inbox_table.specs.Calls.{joined}
use Rattle.inbox_table.proofs.lists.length_of.Given as goal

abbrev pub invariant-loop-i : goal.invariant-loop-i
invariant-loop-i l = l.length < 18446744073709551615 → l.length + length (joined (drop l.i l.lists)) ≡ length (joined l.lists)
