use Rattle.inbox_table.proofs.InsertLemmas.{refused_inside}
use Rattle.inbox_table.proofs.statement.insert_group.Goals as goal

pub returns-in-Err-SqliteFailure-ConstraintViolation-clause-runs :
    goal.returns-in-Err-SqliteFailure-ConstraintViolation-clause-runs
returns-in-Err-SqliteFailure-ConstraintViolation-clause-runs g c clean inside =
    let why = c.in-Err-SqliteFailure-ConstraintViolation in
    refused_inside _ _ _ _ _ (rw (why.is, why.field-0-is, why.field-0-0-is) at (c.execute.ensures.runs clean inside))
