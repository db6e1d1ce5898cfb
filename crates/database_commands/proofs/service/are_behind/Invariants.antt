use Rattle.std.proofs.Common.{take}
use Rattle.std.specs.List.{AllByRecursion}
use Rattle.databases.specs.Held.{IsBehind}
use Rattle.database_commands.proofs.service.are_behind.Given as goal

abbrev pub invariant-loop-i : goal.invariant-loop-i
invariant-loop-i l = AllByRecursion (IsBehind l.after) (take l.i l.events)
