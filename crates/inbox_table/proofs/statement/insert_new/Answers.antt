use Rattle.std.proofs.Common.{w64}
use Rattle.std.proofs.lemmas.Int.{to_z-of_z}
use Rattle.inbox_table.proofs.statement.insert_new.Goals as goal

pub returns-clause-runs : goal.returns-clause-runs
returns-clause-runs g c clean inside =
    rw (c.params-to_sql.ensures, c.params-to_sql-2.ensures, c.params-to_sql-3.ensures, c.params-to_sql-4.ensures, c.params-to_sql-5.ensures, c.params-to_sql-6.ensures, to_z-of_z w64 c.args.place c.ranges.place, to_z-of_z w64 c.args.number c.ranges.number, to_z-of_z w64 c.args.block c.ranges.block) at (c.execute.ensures.runs clean inside)
