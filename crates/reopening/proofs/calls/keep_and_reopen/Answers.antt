use Rattle.std.proofs.lemmas.Result.{IfOk-weaker}
use Rattle.reopening.proofs.calls.keep_and_reopen.Goals as goal

pub returns-in-Ok : goal.returns-in-Ok
returns-in-Ok g c =
    IfOk-weaker c.table_reopened.result _ _
    (λ l found clean.
    let it = found clean in
    let gave = c.in-Ok.ensures it.clean in
    (gave.held, gave.were, (it.kept gave.old gave.held c.args.batch.now gave.had gave.until).0))
    c.table_reopened.ensures.found
