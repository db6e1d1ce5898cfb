use Rattle.inbox_table.proofs.LawLemmas.{version_again}
use Rattle.inbox_table.proofs.laws.stops_leave_one_version.Goals as goal

pub returns : goal.returns
returns c = version_again c.trees_tell_tables.ensures
