use Rattle.std.proofs.Common.{take}
use Rattle.event_json.specs.steps.Told.{AllAreNone}
use Rattle.event_json.proofs.faulty.all_are_none.Given as goal

abbrev pub invariant-loop-fault : goal.invariant-loop-fault
invariant-loop-fault l = AllAreNone (take l.fault-index l.faults)
