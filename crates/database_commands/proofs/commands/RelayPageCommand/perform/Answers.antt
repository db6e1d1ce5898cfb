use Rattle.database_commands.proofs.commands.RelayPageCommand.perform.Goals as goal

pub returns-clause-did : goal.returns-clause-did
returns-clause-did g c = let it = c.relay.ensures in record {
  shown = it.shown;
  kept = it.kept;
  beside = it.beside;
  stays_open = it.stays_open;
  settled = it.settled;
  clean = it.clean;
  crash = it.crash;
  fault = it.fault;
}
