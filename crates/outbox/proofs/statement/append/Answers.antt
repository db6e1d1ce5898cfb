use Rattle.std.proofs.Common.{w64}
use Rattle.std.proofs.lemmas.Int.{to_z-of_z}
use Rattle.outbox.proofs.statement.append.Goals as goal

pub returns-clause-runs : goal.returns-clause-runs
returns-clause-runs g c clean inside =
    rw (c.params-to_sql.ensures, c.params-to_sql-2.ensures, c.params-to_sql-3.ensures, c.params-to_sql-4.ensures, to_z-of_z w64 c.args.number c.ranges.number, to_z-of_z w64 c.args.kind c.ranges.kind, to_z-of_z w64 c.args.order c.ranges.order) at (c.execute.ensures.runs clean inside)
