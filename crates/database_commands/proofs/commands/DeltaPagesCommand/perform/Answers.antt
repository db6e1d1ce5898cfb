use Rattle.std.proofs.Common.{arith}
use Rattle.database_commands.proofs.commands.DeltaPagesCommand.perform.Goals as goal

pub returns-clause-clean : goal.returns-clause-clean
returns-clause-clean g c clean = omega (arith, c.delta_pages.ensures.did.left.clean, clean)

pub returns-clause-fault : goal.returns-clause-fault
returns-clause-fault g c = c.delta_pages.ensures.did.fault
