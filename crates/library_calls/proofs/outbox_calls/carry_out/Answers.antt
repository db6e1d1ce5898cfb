use Rattle.std.proofs.Common.{◌∙◌, refl}
use Rattle.library_calls.proofs.OutboxLemmas.{idle}
use Rattle.library_calls.proofs.outbox_calls.carry_out.Goals as goal

pub returns-in-Err-clause-did : goal.returns-in-Err-clause-did
returns-in-Err-clause-did g c = idle g.S.Store _ c.args.service.now _ _ _ _ c.in-Err.fault c.in-Err.ensures.fault
    (c.refuse-in-Err.ensures.replies.0 ∙ c.outbox_status-in-Err.ensures) c.refuse-in-Err.ensures.replies.1 refl
