use Rattle.outbox.proofs.LawLemmas.{orders_told}
use Rattle.outbox.proofs.laws.orders_have_a_status.Goals as goal

pub returns : goal.returns
returns c = orders_told
