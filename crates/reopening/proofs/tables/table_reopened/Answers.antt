use Rattle.sqlite.specs.Files.{file_state}
use Rattle.reopening.proofs.ListLemmas.{list_found, list_known}
use Rattle.reopening.proofs.tables.table_reopened.Goals as goal

pub returns-in-Ok-adopt_and_load-clause-found : goal.returns-in-Ok-adopt_and_load-clause-found
returns-in-Ok-adopt_and_load-clause-found g c clean =
    let it = c.in-Ok-adopt_and_load in
    list_found c.stops_leave_a_list.ensures c.args.conn c.in-Ok.again (file_state it.loaded.table.conn) c.in-Ok.ensures.opened it.ensures.crash clean
    c.trees_tell_tables.ensures it.loaded.events it.ensures.adopts it.ensures.missing

pub returns-in-Err-adopt_and_load-clause-refused :
    goal.returns-in-Err-adopt_and_load-clause-refused
returns-in-Err-adopt_and_load-clause-refused g c clean =
    let it = c.in-Err-adopt_and_load in
    list_known c.stops_leave_a_list.ensures c.args.conn c.in-Ok.again (file_state it.refused.conn) c.in-Ok.ensures.opened it.ensures.crash_refused clean
    it.refused.fault it.ensures.rejects c.trees_tell_tables.ensures
