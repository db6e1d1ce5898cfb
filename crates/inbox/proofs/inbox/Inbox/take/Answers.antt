use Rattle.std.proofs.Common.{sym, ◌∙◌}
use Rattle.inbox.proofs.OrderLemmas.{key_cmp_total}
use Rattle.inbox.proofs.SetLemmas.{in_order-present}
use Rattle.inbox.proofs.inbox.Inbox.take.Goals as goal

pub returns-then-is_ok-clause-set : goal.returns-then-is_ok-clause-set
returns-then-is_ok-clause-set c = sym (in_order-present key_cmp_total c.args.self.now.arrivals c.args.event (sym c.place_of.ensures.known ∙ sym c.if-is_ok.ensures.value))
