use Rattle.inbox_table.proofs.LawLemmas.{list_again}
use Rattle.inbox_table.proofs.laws.stops_leave_a_list.Goals as goal

pub returns : goal.returns
returns c = list_again c.trees_tell_tables.ensures
