use Rattle.inbox_table.proofs.LawLemmas.{table_again}
use Rattle.inbox_table.proofs.laws.stops_leave_no_events.Goals as goal

pub returns : goal.returns
returns c = table_again c.trees_tell_tables.ensures
