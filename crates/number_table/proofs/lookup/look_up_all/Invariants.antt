use Rattle.std.proofs.Common.{IsTrue, take}
use Rattle.sqlite.specs.Held.{state}
use Rattle.sqlite.specs.State.{HasCleanDisk}
use Rattle.number_table.specs.Lookups.{LearnsNumbers, LooksUp}
use Rattle.number_table.proofs.lookup.look_up_all.Given as goal

abbrev pub invariant-loop-i : goal.invariant-loop-i
invariant-loop-i g l =
    let old = state g.S.Store l.fn.table.conn in
    let now = state g.S.Store l.table.conn in
    LooksUp old now × (HasCleanDisk now → IsTrue old.is_open → IsTrue now.is_open) × (HasCleanDisk now → LearnsNumbers (take l.i l.events) old l.counted l.fn.known l.known)
