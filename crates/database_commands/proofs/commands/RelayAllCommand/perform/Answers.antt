use Rattle.std.proofs.Common.{arith}
use Rattle.database_commands.proofs.commands.RelayAllCommand.perform.Goals as goal

pub returns-clause-did : goal.returns-clause-did
returns-clause-did g c = let it = c.relay_all.ensures in record {
  shown = it.shown;
  left = it.left;
  without = it.without;
  stays_open = it.stays_open;
  settled = it.settled;
  fault = it.fault;
}

pub returns-clause-clean : goal.returns-clause-clean
returns-clause-clean g c clean = omega (arith, c.relay_all.ensures.left.clean, clean)
