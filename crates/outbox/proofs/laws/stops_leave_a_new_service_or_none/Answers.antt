use Rattle.outbox.proofs.LawLemmas.{new_again}
use Rattle.outbox.proofs.laws.stops_leave_a_new_service_or_none.Goals as goal

pub returns : goal.returns
returns c = new_again c.trees_tell_tables.ensures
