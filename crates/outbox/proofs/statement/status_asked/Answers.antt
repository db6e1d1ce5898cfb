use Rattle.std.proofs.Common.{w64}
use Rattle.std.proofs.lemmas.Int.{to_z-of_z}
use Rattle.outbox.proofs.statement.status_asked.Goals as goal

pub returns-clause-ok : goal.returns-clause-ok
returns-clause-ok g c clean = rw (c.params-to_sql.ensures, to_z-of_z w64 c.args.order c.ranges.order) at (c.query_all.ensures.ok clean)

pub returns-clause-err : goal.returns-clause-err
returns-clause-err g c clean = rw (c.params-to_sql.ensures, to_z-of_z w64 c.args.order c.ranges.order) at (c.query_all.ensures.err clean)

pub returns-clause-survives : goal.returns-clause-survives
returns-clause-survives g c = rw (c.params-to_sql.ensures, to_z-of_z w64 c.args.order c.ranges.order) at c.query_all.ensures.survives
