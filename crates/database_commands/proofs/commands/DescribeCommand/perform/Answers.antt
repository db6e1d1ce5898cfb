use Rattle.std.proofs.Common.{arith}
use Rattle.database_commands.proofs.commands.DescribeCommand.perform.Goals as goal

pub returns-clause-did : goal.returns-clause-did
returns-clause-did g c = let it = c.describe.ensures in record {
  told = it.told;
  left = it.left;
  foreign = it.foreign;
  fault = it.fault;
}

pub returns-clause-clean : goal.returns-clause-clean
returns-clause-clean g c clean = omega (arith, c.describe.ensures.left.clean, clean)
