use Rattle.std.proofs.Common.{Err, subst}
use Rattle.sqlite.specs.Files.{file_state, over_files}
use Rattle.outbox.specs.Shown.{IsAllowed}
use Rattle.library_calls.specs.Outboxes.{FindsServiceOrWhy, FindsMeant}
use Rattle.library_calls.proofs.OutboxLemmas.{serves, serves_none}
use Rattle.library_calls.proofs.outbox_calls.served.Goals as goal

pub returns-in-Ok-service_of : goal.returns-in-Ok-service_of
returns-in-Ok-service_of c =
    let same = c.in-Ok.ensures.ok.0 in
    let conn = c.in-Ok-connect.conn in
    serves c.args.has_source c.args.source.now c.args.base conn c.in-Ok-service_of.service
    (subst (λ t. IsAllowed t c.args.base) same c.in-Ok.ensures.ok.1) c.in-Ok-connect.ensures.over
    (subst (λ t. FindsMeant c.args.has_source t c.args.base (file_state conn) c.in-Ok-service_of.service (file_state c.in-Ok-service_of.service.conn)) same c.in-Ok-service_of.ensures)

pub returns : goal.returns
returns c =
    let same = c.in-Ok.ensures.ok.0 in
    let conn = c.in-Ok-connect.conn in
    serves_none c.args.has_source c.args.source.now c.args.base conn c.in-Err-service_of.unserved c.closed.result
    (subst (λ t. IsAllowed t c.args.base) same c.in-Ok.ensures.ok.1) c.in-Ok-connect.ensures.over
    (subst (λ t. FindsServiceOrWhy over_files c.args.has_source t c.args.base (file_state conn) (Err c.in-Err-service_of.unserved)) same c.in-Err-service_of.ensures)
    c.closed.ensures.status c.closed.ensures.closes
