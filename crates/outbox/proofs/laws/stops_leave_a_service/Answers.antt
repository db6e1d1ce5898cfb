use Rattle.outbox.proofs.LawLemmas.{found_again}
use Rattle.outbox.proofs.laws.stops_leave_a_service.Goals as goal

pub returns : goal.returns
returns c = found_again c.trees_tell_tables.ensures
