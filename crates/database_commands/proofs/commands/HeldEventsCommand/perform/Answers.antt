use Rattle.std.proofs.Common.{arith}
use Rattle.database_commands.proofs.commands.HeldEventsCommand.perform.Goals as goal

pub returns-clause-did : goal.returns-clause-did
returns-clause-did g c = let it = c.held.ensures in record {
  look = record { shown = it.events; left = it.left; without = λ absent. (it.without absent).0; foreign = it.foreign; both = it.both; fault = it.fault };
  none = λ absent. let none = it.without absent in (none.1, none.2);
}

pub returns-clause-clean : goal.returns-clause-clean
returns-clause-clean g c clean = omega (arith, c.held.ensures.left.clean, clean)

pub returns-clause-fault : goal.returns-clause-fault
returns-clause-fault g c = c.held.ensures.fault
