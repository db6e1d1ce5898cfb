use Rattle.std.proofs.KnownBytes.{Keeps-refl}
use Rattle.std.proofs.lemmas.Result.{IfOk-at_ok}
use Rattle.number_lines.proofs.OverLemmas.{unread_some}
use Rattle.database_commands.proofs.numberers.number_opened.Goals as goal

pub returns-in-Err-clause-unopened : goal.returns-in-Err-clause-unopened
returns-in-Err-clause-unopened g c = unread_some c.args.aside.now _ _ _ _ _ (Keeps-refl _) (Keeps-refl _)

pub returns-in-Ok-clause-did : goal.returns-in-Ok-clause-did
returns-in-Ok-clause-did g c = record { first = c.in-Ok.conn; over = IfOk-at_ok _ c.in-Ok.is c.requires; clean = c.number_over.ensures.clean; did = c.number_over.ensures.did }
