use Rattle.std.proofs.Common.{arith}
use Rattle.sqlite.specs.Held.{state}
use Rattle.sqlite.specs.State.{HasCleanDisk, IsUnchanged}
use Rattle.inbox_table.proofs.InsertLemmas.{fails_again, keeps_then_again}
use Rattle.inbox_table.proofs.statement.put_some.Goals as goal

pub returns-clause-keeping : goal.returns-clause-keeping
returns-clause-keeping g c clean inside =
    let old = state g.S.Store c.args.tx.now.conn.now in
    let mid = state g.S.Store c.put_group.new.tx.conn.now in
    let last = state g.S.Store c.put_each-2.new.tx.conn.now in
    let clean1 : HasCleanDisk mid = omega (arith, c.put_each-2.ensures.survives.clean, clean) in
    let same : IsUnchanged old mid = rw c.if-branch.false at (c.in_ok-put_group.ensures.put clean1 inside) in
    keeps_then_again _ c.args.rows old mid last c.put_each-2.result same inside (c.put_each-2.ensures.keeping clean)

pub returns-clause-failed : goal.returns-clause-failed
returns-clause-failed g c clean inside =
    let old = state g.S.Store c.args.tx.now.conn.now in
    let mid = state g.S.Store c.put_group.new.tx.conn.now in
    let last = state g.S.Store c.put_each-2.new.tx.conn.now in
    let clean1 : HasCleanDisk mid = omega (arith, c.put_each-2.ensures.survives.clean, clean) in
    let same : IsUnchanged old mid = rw c.if-branch.false at (c.in_ok-put_group.ensures.put clean1 inside) in
    fails_again old mid last c.put_each-2.result same inside (c.put_each-2.ensures.failed clean)
