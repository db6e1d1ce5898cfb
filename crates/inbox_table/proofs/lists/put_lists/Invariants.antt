use Rattle.std.proofs.Common.{◌≡◌, ◌≤◌, ◌*◌, ◌+◌, IsTrue, drop, length, min, sum}
use Rattle.sqlite.specs.State.{HasCleanDisk, Survives}
use Rattle.sqlite.specs.Held.{state}
use Rattle.inbox_table.specs.Calls.{joined}
use Rattle.inbox_table.specs.steps.Turns.{IsKeepingEach}
use Rattle.inbox_table.proofs.lists.put_lists.Given as goal

abbrev pub invariant-loop-group : goal.invariant-loop-group
invariant-loop-group g l =
    let old = state g.S.Store l.fn.tx.conn.now in
    let now = state g.S.Store l.tx.conn.now in
    let put = min (l.group * 8) (length l.lists) in
    (l.tx.conn.ghost_name ≡ l.fn.tx.conn.ghost_name) × Survives old now (λ _. ⊥)
    × (HasCleanDisk now → IsTrue old.in_transaction → IsKeepingEach l.rows l.lists (drop put l.lists) old now l.all l.each)
    × (l.all + length (joined (drop put l.lists)) ≤ length (joined l.lists))
    × (l.all ≡ sum l.each) × (length l.each ≡ put)
