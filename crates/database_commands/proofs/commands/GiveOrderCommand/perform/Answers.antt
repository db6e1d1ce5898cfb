use Rattle.database_commands.proofs.commands.GiveOrderCommand.perform.Goals as goal

pub returns-clause-fault : goal.returns-clause-fault
returns-clause-fault g c = c.order.ensures.did.fault
