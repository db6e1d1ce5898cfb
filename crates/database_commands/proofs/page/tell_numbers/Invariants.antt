use Rattle.std.proofs.Common.{take}
use Rattle.inbox_table.specs.Rows.{AreNumbered}
use Rattle.database_commands.proofs.page.tell_numbers.Given as goal

abbrev pub invariant-loop-place : goal.invariant-loop-place
invariant-loop-place l = AreNumbered (take l.place l.events)
