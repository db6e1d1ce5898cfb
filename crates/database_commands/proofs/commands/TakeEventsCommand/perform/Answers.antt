use Rattle.std.proofs.Common.{arith}
use Rattle.database_commands.proofs.commands.TakeEventsCommand.perform.Goals as goal

pub returns-clause-did : goal.returns-clause-did
returns-clause-did g c = let it = c.take.ensures in record {
  taken = it.taken;
  left = it.left;
  beside = it.beside;
  told = it.told;
  upgraded = it.upgraded;
  stays_open = it.stays_open;
  settled = it.settled;
  crash = it.crash;
  foreign = it.foreign;
  both = it.both;
  fault = it.fault;
}

pub returns-clause-clean : goal.returns-clause-clean
returns-clause-clean g c clean = omega (arith, c.take.ensures.crash.clean, clean)

pub returns-clause-fault : goal.returns-clause-fault
returns-clause-fault g c = c.take.ensures.fault
