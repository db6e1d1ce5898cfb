use Rattle.std.proofs.Common.{w64}
use Rattle.std.proofs.lemmas.Int.{to_z-of_z}
use Rattle.outbox.proofs.creation.fill.Goals as goal

pub returns-clause-runs : goal.returns-clause-runs
returns-clause-runs g c clean inside =
    rw (c.params-to_sql.ensures, c.params-to_sql-2.ensures, c.params-to_sql-3.ensures, to_z-of_z w64 c.args.one c.ranges.one, to_z-of_z w64 c.args.base c.ranges.base) at (c.execute.ensures.runs clean inside)
