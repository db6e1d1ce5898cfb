use Rattle.std.proofs.Common.{subst, sym}
use Rattle.library_calls.specs.Outboxes.{Commands}
use Rattle.library_calls.proofs.outbox_calls.order_and_tell.Goals as goal

pub returns-clause-did : goal.returns-clause-did
returns-clause-did g c = let it = c.ordered in let rest = c.tell_service.ensures.rest in
    subst (λ s. Commands g.S.Store c.args.action c.args.order c.args.time.now c.args.service.now it.new.service c.args.text.now it.new.text s c.tell_service.new.reply.number) (sym rest.0)
    (subst (λ n. Commands g.S.Store c.args.action c.args.order c.args.time.now c.args.service.now it.new.service c.args.text.now it.new.text it.new.reply.status n) (sym rest.1) it.ensures.did)
