use Rattle.std.proofs.Common.{arith, subst, take_all}
use Rattle.sqlite.specs.Held.{state}
use Rattle.sqlite.specs.State.{HasCleanDisk}
use Rattle.number_table.specs.Counting.{CountsRows}
use Rattle.number_table.proofs.LookLemmas.{looks_then}
use Rattle.number_table.proofs.PageLemmas.{counts_more, refuses_at}
use Rattle.number_table.proofs.StandLemmas.{was_clean}
use Rattle.number_table.proofs.count.count_page.Goals as goal

pub returns-then-not-branch-clause-refused : goal.returns-then-not-branch-clause-refused
returns-then-not-branch-clause-refused g c clean is =
    let old = state g.S.Store c.args.table.now.conn in
    let mid = state g.S.Store c.loop-i.table.conn in
    let new = state g.S.Store c.count_row.new.table.conn in
    let was = c.loop-i.invariant in
    refuses_at c.args.page.now c.loop-i.i c.at.result.now old mid c.args.counted.now c.loop-i.counted c.at.ensures was.0 (was.2 (was_clean mid new (λ _. ⊥) c.count_row.ensures.looks.survives clean)) (c.in_ok-count_row.ensures.refused clean c.if-not-branch.true)

pub loop-i-preserved : goal.loop-i-preserved
loop-i-preserved g c =
    let old = state g.S.Store c.args.table.now.conn in
    let mid = state g.S.Store c.loop-i.table.conn in
    let new = state g.S.Store c.count_row.new.table.conn in
    let was = c.loop-i.invariant in
    let before = λ (clean : HasCleanDisk new). was_clean mid new (λ _. ⊥) c.count_row.ensures.looks.survives clean in (
      looks_then old mid new was.0 c.count_row.ensures.looks,
      λ clean still. c.in_ok-count_row.ensures.open clean (was.1 (before clean) still),
      λ clean. counts_more c.args.page.now c.loop-i.i c.at.result.now old mid c.args.counted.now c.loop-i.counted c.count_row.new.counted c.at.ensures was.0 (was.2 (before clean)) (c.in_ok-count_row.ensures.counts clean c.if-not-branch.false),
    )

pub returns-clause-counts : goal.returns-clause-counts
returns-clause-counts g c clean is =
    subst (λ P. CountsRows P (state g.S.Store c.args.table.now.conn) c.args.counted.now c.loop-i.counted) (take_all c.loop-i.i c.args.page.now (omega arith)) (c.loop-i.invariant.2 clean)
