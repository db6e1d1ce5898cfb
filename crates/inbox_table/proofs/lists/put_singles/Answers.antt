use Rattle.std.proofs.Common.{◌≡◌, ◌+◌, ◌∙◌, ap, subst, drop, take, IfOk}
use Rattle.sqlite.specs.Held.{state}
use Rattle.sqlite.specs.Values.{bound}
use Rattle.inbox_table.specs.Calls.{joined}
use Rattle.inbox_table.specs.steps.Turns.{RunsGroup, params_from}
use Rattle.inbox_table.proofs.InsertLemmas.{group_put_if}
use Rattle.inbox_table.proofs.ListsLemmas.{eight_events}
use Rattle.inbox_table.proofs.lists.put_singles.Goals as goal

pub returns-clause-put : goal.returns-clause-put
returns-clause-put g c clean inside =
    let old = state g.S.Store c.args.tx.now.conn.now in
    let last = state g.S.Store c.insert_group.new.tx.conn.now in
    let L = joined (take 8 (drop c.args.from c.args.lists.now)) in
    let values : bound c.as_slice.result.now ≡ params_from (c.args.rows + 1) L = ap bound c.as_slice.ensures.value ∙ c.in_ok-values.ensures.values in
    group_put_if old last c.args.rows L c.insert_group.result (eight_events c.args.from c.args.lists.now c.requires.within c.requires.single) c.in_ok-values.ensures.numbered inside (subst (λ ps. IfOk c.insert_group.result (RunsGroup ps old last)) values (c.insert_group.ensures.runs clean inside))
