use Rattle.std.proofs.Common.{IsTrue, take}
use Rattle.sqlite.specs.Held.{state}
use Rattle.sqlite.specs.State.{HasCleanDisk}
use Rattle.number_table.specs.Counting.{CountsRows}
use Rattle.number_table.specs.Lookups.{LooksUp}
use Rattle.number_table.proofs.count.count_page.Given as goal

abbrev pub invariant-loop-i : goal.invariant-loop-i
invariant-loop-i g l =
    let old = state g.S.Store l.fn.table.conn in
    let now = state g.S.Store l.table.conn in
    LooksUp old now × (HasCleanDisk now → IsTrue old.is_open → IsTrue now.is_open) × (HasCleanDisk now → CountsRows (take l.i l.page) old l.fn.counted l.counted)
