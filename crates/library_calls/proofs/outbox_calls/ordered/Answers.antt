use Rattle.std.proofs.Common.{◌∙◌, inl, inr, refl, subst, sym}
use Rattle.outbox.specs.declared.fault.OutboxFault.TheVariants.{OutOfMemory}
use Rattle.library_calls.specs.Outboxes.{NamesNone}
use Rattle.library_calls.proofs.OutboxLemmas.{idle}
use Rattle.library_calls.proofs.outbox_calls.ordered.Goals as goal

pub returns-in-Err-clause-did : goal.returns-in-Err-clause-did
returns-in-Err-clause-did g c =
    let did = c.refuse.ensures in
    elim c.in-Err.ensures.err [
      | inl want ↦ inl (want.1.0, want.1.1, idle g.S.Store want.1.0 c.args.service.now _ _ _ _ OutOfMemory (inl refl) (did.replies.0 ∙ want.0) did.replies.1 refl)
      | inr other ↦ inr (subst (NamesNone c.args.action c.args.order c.args.time.now) (sym did.replies.0) other, refl, refl, did.replies.1)
    ]
