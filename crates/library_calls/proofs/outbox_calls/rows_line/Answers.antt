use Rattle.std.proofs.Common.{◌∙◌, ap, inl, inr}
use Rattle.std.proofs.lemmas.Result.{IfErr-weaker, IfOk-weaker}
use Rattle.library_calls.specs.Outboxes.{outbox_status}
use Rattle.library_calls.proofs.outbox_calls.rows_line.Goals as goal

pub returns-in-Ok-clause-ok : goal.returns-in-Ok-clause-ok
returns-in-Ok-clause-ok g c =
    let read = c.in-Ok.ensures in
    IfOk-weaker c.page_line.result _ _ (λ m line. (
      c.in-Ok.events,
      line,
      λ clean. record {
        rows = read.rows clean;
        was_open = read.open clean;
        stays_open = read.stays_open clean;
        settled = read.settled clean;
      },
    )) c.page_line.ensures.ok

pub returns-in-Ok-clause-err : goal.returns-in-Ok-clause-err
returns-in-Ok-clause-err g c = IfErr-weaker c.page_line.result _ _ (λ status want. inl want) c.page_line.ensures.err

pub returns-in-Err-clause-err : goal.returns-in-Err-clause-err
returns-in-Err-clause-err g c = elim c.in-Err.ensures.fault [
  | inl is ↦ inl (c.outbox_status.ensures ∙ ap outbox_status is)
  | inr is ↦ inr (c.outbox_status.ensures ∙ ap outbox_status is)
]
