use Rattle.std.proofs.lemmas.Result.{IfOk-at_ok}
use Rattle.database_commands.proofs.named.performed.Goals as goal

pub returns-in-Ok-clause-did : goal.returns-in-Ok-clause-did
returns-in-Ok-clause-did g c = record { first = c.in-Ok.conn; over = IfOk-at_ok _ c.in-Ok.is c.requires.over; clean = c.perform.ensures.clean; did = c.perform.ensures.did }
