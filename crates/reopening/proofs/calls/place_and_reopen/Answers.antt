use Rattle.std.proofs.lemmas.Result.{IfOk-weaker}
use Rattle.outbox.specs.declared.status.Status.TheVariants.{Placed}
use Rattle.reopening.proofs.calls.place_and_reopen.Goals as goal

pub returns-in-Ok : goal.returns-in-Ok
returns-in-Ok g c =
    IfOk-weaker c.service_reopened.result _ _
    (λ s found clean.
    let it = found clean in
    let gave = c.in-Ok.ensures it.clean in (
      gave.source,
      gave.base,
      gave.commands,
      gave.was,
      it.accepted gave.old gave.source gave.base gave.commands (record { status = Placed; order = c.args.order; at = c.args.at.now }) gave.had gave.until,
    ))
    c.service_reopened.ensures.found
