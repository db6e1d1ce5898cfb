use Rattle.std.proofs.Common.{◌≡◌, ◌<◌, rules, sym, length, get_or, pos}
use Rattle.sqlite_value.specs.Order.{column}
use Rattle.sqlite_value.specs.declared.value.Value.TheVariants.{Int}
use Rattle.outbox.specs.Service.{code}
use Rattle.outbox.proofs.ServiceLemmas.{no_row, first_row}
use Rattle.outbox.proofs.service.status_in.Goals as goal

pub returns-then-is_empty-clause-status : goal.returns-then-is_empty-clause-status
returns-then-is_empty-clause-status g c clean source base commands box =
    let none : length c.in_ok-rows.rows.items ≡ 0 = search rules in
    sym (no_row commands c.args.order c.in_ok-rows.rows.items none (c.in_ok-rows.ensures.tells clean source base commands box))

pub returns-in-Some-clause-status : goal.returns-in-Some-clause-status
returns-in-Some-clause-status g c clean source base commands box =
    let low : 0 < length c.in_ok-rows.rows.items = search rules in
    let is : c.index.result.now ≡ get_or c.in_ok-rows.rows.items 0 c.index.result.now = search rules in
    let reads : column c.index.result.now 0 ≡ Int (pos (code c.in-Some.status)) = search rules in
    first_row commands c.args.order c.in_ok-rows.rows.items c.index.result.now c.in-Some.status low is reads (c.in_ok-rows.ensures.tells clean source base commands box)
