use Rattle.std.proofs.Common.{◌<◌, length, arith}
use Rattle.inbox_table.proofs.LookupLemmas.{shown_all, shown_never, shown_none, shown_on}
use Rattle.inbox_table.proofs.lookup.events_in.Goals as goal

pub loop-row-init : goal.loop-row-init
loop-row-init c events h = rw c.empty-batch.ensures (shown_none c.args.rows.now events h)

pub loop-row-preserved : goal.loop-row-preserved
loop-row-preserved c events h =
    let low : c.loop-row.row-index < length c.args.rows.now = omega arith in
    rw c.in_ok-push.ensures.ok (shown_on c.args.rows.now c.loop-row.row-index c.row-item.result c.loop-row.batch c.in-Ok.event events low c.row-item.is c.in-Ok.ensures.event (c.loop-row.invariant events h))

pub returns-in-Err-clause-foreign : goal.returns-in-Err-clause-foreign
returns-in-Err-clause-foreign c is events h =
    let low : c.loop-row.row-index < length c.args.rows.now = omega arith in
    shown_never c.args.rows.now c.loop-row.row-index c.row-item.result c.loop-row.batch events low c.row-item.is (c.in-Err.ensures.foreign is) (c.loop-row.invariant events h)

pub returns-clause-events : goal.returns-clause-events
returns-clause-events c events h = shown_all c.args.rows.now c.loop-row.row-index c.loop-row.batch events (omega arith) (c.loop-row.invariant events h)
