use Rattle.std.proofs.Common.{inl, inr, sym, ap, ◌∙◌}
use Rattle.outbox.specs.declared.fault.OutboxFault.TheVariants as outbox
use Rattle.databases.specs.Print.{event_line}
use Rattle.database_commands.proofs.service.command_line.Goals as goal

pub returns-in-Ok-command-clause-accepted : goal.returns-in-Ok-command-clause-accepted
returns-in-Ok-command-clause-accepted g c clean =
    let done = c.in-Ok-command in
    (done.field-0, c.in-Ok.ensures.next done.ensures.next.0 ∙ ap event_line (sym done.ensures.next.1), done.ensures.accepted clean)

pub returns-in-Err-clause-fault : goal.returns-in-Err-clause-fault
returns-in-Err-clause-fault g c = elim c.in-Err.ensures.fault [
  | inl is ↦ (outbox.OutOfMemory, is)
  | inr is ↦ (outbox.Store, is)
]
