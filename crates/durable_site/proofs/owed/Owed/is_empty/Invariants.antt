use Rattle.std.proofs.Common.{◌≡◌, drop}
use Rattle.inbox_table.specs.Calls.{joined}
use Rattle.durable_site.proofs.owed.Owed.is_empty.Given as goal

abbrev pub invariant-loop-i : goal.invariant-loop-i
invariant-loop-i l = joined (drop l.i l.self-inside.behind.items) ≡ joined l.self-inside.behind.items
