use Rattle.database_commands.proofs.commands.TellServiceCommand.perform.Goals as goal

pub returns-clause-fault : goal.returns-clause-fault
returns-clause-fault g c = c.tell_service.ensures.did.fault
