use Rattle.std.proofs.Common.{subst, sym}
use Rattle.library_calls.specs.Outboxes.{ShowsRows}
use Rattle.library_calls.proofs.outbox_calls.show_and_tell.Goals as goal

pub returns-clause-did : goal.returns-clause-did
returns-clause-did g c = let it = c.shown in let rest = c.tell_service.ensures.rest in
    subst (λ s. ShowsRows g.S.Store c.args.after c.args.service.now it.new.service c.args.text.now it.new.text s c.tell_service.new.reply.listed) (sym rest.0)
    (subst (λ n. ShowsRows g.S.Store c.args.after c.args.service.now it.new.service c.args.text.now it.new.text it.new.reply.status n) (sym rest.2) it.ensures.did)
