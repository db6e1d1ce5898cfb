use Rattle.std.proofs.Common.{◌≡◌, ◌<◌, ◌+◌, length, rules, arith, sym, ap, ◌∙◌}
use Rattle.attributes.specs.Sequence.{max_sequence}
use Rattle.outbox.specs.Order.{Accepted, IsCommand, status_fault}
use Rattle.outbox.specs.steps.Change.{stored_row}
use Rattle.outbox.proofs.ReplayLemmas.{replay_on, stops_at, stops_full, stops_refused}
use Rattle.outbox.proofs.adoption.replay.Goals as goal

pub loop-row-preserved : goal.loop-row-preserved
loop-row-preserved c =
    let low : c.loop-row.row-index < length c.args.rows.now = omega arith in
    let room : c.loop-row.last < max_sequence = search rules in
    let it : Accepted = record { status = c.in-Some.stored.status; order = c.in-Some.stored.order; at = c.in-Some.stored.at.now } in
    let command : IsCommand it = rw c.in-Some.is at c.in_ok-stored.ensures.command in
    let shown : c.row-item.result ≡ stored_row (c.loop-row.last + 1) it = rw c.in-Some.is at c.in_ok-stored.ensures.row in
    replay_on c.args.base c.args.rows.now c.loop-row.row-index c.loop-row.statuses c.insert.new.self c.loop-row.orders c.placed-orders.result c.loop-row.last c.row-item.result it low c.row-item.is room shown command
    (ap (status_fault it.status) (sym c.status_at.ensures) ∙ sym c.fault_after.ensures ∙ c.in-None.is) c.in-Ok.ensures.updates.0 (c.placed-orders.ensures.placed it.order) c.placed-orders.ensures.few c.loop-row.invariant

pub returns-then-last-eq-MAX_SEQUENCE-clause-none : goal.returns-then-last-eq-MAX_SEQUENCE-clause-none
returns-then-last-eq-MAX_SEQUENCE-clause-none c commands =
    let low : c.loop-row.row-index < length c.args.rows.now = omega arith in
    let full : c.loop-row.last ≡ max_sequence = search rules in
    stops_full c.args.base c.args.rows.now c.loop-row.row-index c.loop-row.statuses c.loop-row.orders c.loop-row.last c.row-item.result commands low c.row-item.is c.loop-row.invariant full

pub returns-in_default-clause-none : goal.returns-in_default-clause-none
returns-in_default-clause-none c commands =
    let low : c.loop-row.row-index < length c.args.rows.now = omega arith in
    stops_at c.args.base c.args.rows.now c.loop-row.row-index c.loop-row.statuses c.loop-row.orders c.loop-row.last c.row-item.result commands low c.row-item.is c.loop-row.invariant (rw c.in_default.is at c.in_ok-stored.ensures.none)

pub returns-in-Some-fault_after-clause-none : goal.returns-in-Some-fault_after-clause-none
returns-in-Some-fault_after-clause-none c commands =
    let low : c.loop-row.row-index < length c.args.rows.now = omega arith in
    let it : Accepted = record { status = c.in-Some.stored.status; order = c.in-Some.stored.order; at = c.in-Some.stored.at.now } in
    let shown : c.row-item.result ≡ stored_row (c.loop-row.last + 1) it = rw c.in-Some.is at c.in_ok-stored.ensures.row in
    stops_refused c.args.base c.args.rows.now c.loop-row.row-index c.loop-row.statuses c.loop-row.orders c.loop-row.last c.row-item.result commands it c.in-Some-fault_after.field-0 low c.row-item.is c.loop-row.invariant shown
    (ap (status_fault it.status) (sym c.status_at.ensures) ∙ sym c.fault_after.ensures ∙ c.in-Some-fault_after.is)
