use Rattle.std.proofs.Common.{◌≡◌, ◌+◌, ◌∙◌, ap, subst, drop, take, IfOk}
use Rattle.sqlite.specs.Held.{state}
use Rattle.sqlite.specs.Values.{bound}
use Rattle.inbox_table.specs.steps.Turns.{RunsGroup, params_from}
use Rattle.inbox_table.proofs.InsertLemmas.{group_put_if, length_part}
use Rattle.inbox_table.proofs.statement.put_group.Goals as goal

pub returns-clause-put : goal.returns-clause-put
returns-clause-put g c clean inside =
    let old = state g.S.Store c.args.tx.now.conn.now in
    let last = state g.S.Store c.insert_group.new.tx.conn.now in
    let all = g.E.Listed.listed c.args.events.now in
    let L = take 8 (drop c.args.from all) in
    let values : bound c.as_slice.result.now ≡ params_from (c.args.rows + 1) L = ap bound c.as_slice.ensures.value ∙ c.in_ok-values.ensures.values in
    group_put_if old last c.args.rows L c.insert_group.result (length_part 8 c.args.from all c.requires.within) c.in_ok-values.ensures.numbered inside (subst (λ ps. IfOk c.insert_group.result (RunsGroup ps old last)) values (c.insert_group.ensures.runs clean inside))
