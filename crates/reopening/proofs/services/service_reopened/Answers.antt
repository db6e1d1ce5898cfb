use Rattle.sqlite.specs.Files.{file_state}
use Rattle.reopening.proofs.ServiceLemmas.{service_found, service_known}
use Rattle.reopening.proofs.services.service_reopened.Goals as goal

pub returns-in-Ok-adopt-clause-found : goal.returns-in-Ok-adopt-clause-found
returns-in-Ok-adopt-clause-found g c clean =
    let it = c.in-Ok-adopt in
    service_found c.stops_leave_a_service.ensures c.trees_tell_tables.ensures c.args.conn c.in-Ok.again it.service c.in-Ok.ensures.opened
    it.ensures.left it.ensures.open it.ensures.exact it.ensures.settled it.ensures.missing clean

pub returns-in-Err-adopt-clause-refused : goal.returns-in-Err-adopt-clause-refused
returns-in-Err-adopt-clause-refused g c clean =
    let it = c.in-Err-adopt in
    service_known c.stops_leave_a_service.ensures c.args.conn c.in-Ok.again (file_state it.refused.conn) c.in-Ok.ensures.opened it.ensures.back clean
    it.refused.fault it.ensures.foreign
