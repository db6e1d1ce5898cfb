use Rattle.std.proofs.Common.{◌≡◌, ◌≢◌, ◌<◌, ◌≤◌, length, Some, nat_cmp, rules, arith, sym, ap, ◌∙◌}
use Rattle.std.specs.BTreeMap.{get}
use Rattle.outbox.proofs.ReplayLemmas.{all_gone, cloned, match_all, match_none, match_on, no_entry, no_order, other_status}
use Rattle.outbox.proofs.adoption.are_orders.Goals as goal

pub loop-row-init : goal.loop-row-init
loop-row-init c = match_none c.args.rows.now c.args.statuses c.in_ok-left.left (cloned c.args.statuses.entries c.in_ok-left.left.entries c.in_ok-left.ensures.cases)

pub loop-row-preserved : goal.loop-row-preserved
loop-row-preserved c =
    let low : c.loop-row.row-index < length c.args.rows.now = omega arith in
    let same : c.in-Some-status_at.found ≡ c.in-Some.status = search rules in
    let has : get nat_cmp c.args.statuses c.in-Some.order ≡ Some c.in-Some.status = sym c.status_at.ensures ∙ c.in-Some-status_at.is ∙ ap (λ s. Some s) same in
    match_on c.args.rows.now c.loop-row.row-index c.args.statuses c.loop-row.left c.remove-found.new.self c.row-item.result c.in-Some.order c.in-Some.status low c.row-item.is c.in-Some.ensures.some has c.remove-found.ensures.updates.0 c.loop-row.invariant

pub returns-in_default-clause-orders : goal.returns-in_default-clause-orders
returns-in_default-clause-orders c commands told =
    let low : c.loop-row.row-index < length c.args.rows.now = omega arith in
    (λ no. absurd (cc), λ orders. absurd (no_order c.args.rows.now c.loop-row.row-index c.row-item.result commands low c.row-item.is c.in_default.ensures.none orders))

pub returns-then-ne-clause-orders : goal.returns-then-ne-clause-orders
returns-then-ne-clause-orders c commands told =
    let low : c.loop-row.row-index < length c.args.rows.now = omega arith in
    let has : get nat_cmp c.args.statuses c.in-Some.order ≡ Some c.in-Some-status_at.found = sym c.status_at.ensures ∙ c.in-Some-status_at.is in
    let apart : c.in-Some-status_at.found ≢ c.in-Some.status = search rules in (
      λ no. absurd (cc),
      λ orders. absurd (other_status c.args.rows.now c.loop-row.row-index c.row-item.result c.args.statuses c.in-Some.order c.in-Some.status commands low c.row-item.is c.in-Some.ensures.some
          (λ same. apart (let one : c.in-Some-status_at.found ≡ c.in-Some.status = cc in one)) told orders),
    )

pub returns-in-None-clause-orders : goal.returns-in-None-clause-orders
returns-in-None-clause-orders c commands told =
    let low : c.loop-row.row-index < length c.args.rows.now = omega arith in
    let none : get nat_cmp c.args.statuses c.in-Some.order ≢ Some c.in-Some.status = λ some. let no = sym c.in-None.is ∙ c.status_at.ensures ∙ some in cc in
    (λ no. absurd (cc), λ orders. absurd (other_status c.args.rows.now c.loop-row.row-index c.row-item.result c.args.statuses c.in-Some.order c.in-Some.status commands low c.row-item.is c.in-Some.ensures.some none told orders))

pub returns-clause-orders : goal.returns-clause-orders
returns-clause-orders c commands told =
    let high : length c.args.rows.now ≤ c.loop-row.row-index = omega arith in (
      λ empty. match_all c.args.rows.now c.loop-row.row-index c.args.statuses c.loop-row.left commands high (no_entry c.loop-row.left.entries (c.is_empty.ensures.0 empty)) c.loop-row.invariant told,
      λ orders. c.is_empty.ensures.1 (ap length (all_gone c.args.rows.now c.loop-row.row-index c.args.statuses c.loop-row.left commands high c.loop-row.invariant told orders)),
    )
