use Rattle.std.proofs.Common.{arith, false}
use Rattle.sqlite.specs.Held.{state}
use Rattle.sqlite.specs.State.{HasCleanDisk}
use Rattle.inbox_table.specs.steps.Turns.{PutsNew}
use Rattle.inbox_table.proofs.InsertLemmas.{fails_again, puts_again}
use Rattle.inbox_table.proofs.statement.put.Goals as goal

pub returns-then-branch-clause-put : goal.returns-then-branch-clause-put
returns-then-branch-clause-put g c clean inside = rw c.if-branch.true at (c.in_ok-put_new.ensures.put clean inside)

pub returns-clause-put : goal.returns-clause-put
returns-clause-put g c clean inside =
    let old = state g.S.Store c.args.tx.now.conn.now in
    let mid = state g.S.Store c.put_new.new.tx.conn.now in
    let last = state g.S.Store c.put_unless_there-2.new.tx.conn.now in
    let clean1 : HasCleanDisk mid = omega (arith, c.put_unless_there-2.ensures.survives.clean, clean) in
    let left : PutsNew c.args.place c.args.event.now old mid false = rw c.if-branch.false at (c.in_ok-put_new.ensures.put clean1 inside) in
    puts_again old mid last c.args.place c.args.event.now c.put_unless_there-2.result left inside (c.put_unless_there-2.ensures.put clean)

pub returns-clause-failed : goal.returns-clause-failed
returns-clause-failed g c clean inside =
    let old = state g.S.Store c.args.tx.now.conn.now in
    let mid = state g.S.Store c.put_new.new.tx.conn.now in
    let last = state g.S.Store c.put_unless_there-2.new.tx.conn.now in
    let clean1 : HasCleanDisk mid = omega (arith, c.put_unless_there-2.ensures.survives.clean, clean) in
    let left : PutsNew c.args.place c.args.event.now old mid false = rw c.if-branch.false at (c.in_ok-put_new.ensures.put clean1 inside) in
    fails_again old mid last c.put_unless_there-2.result left inside (c.put_unless_there-2.ensures.failed clean)
