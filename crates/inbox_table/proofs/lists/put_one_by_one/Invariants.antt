use Rattle.std.proofs.Common.{◌≡◌, ◌≤◌, ◌+◌, ◌-◌, IsTrue, drop, length, sum, take}
use Rattle.sqlite.specs.State.{HasCleanDisk, Survives}
use Rattle.sqlite.specs.Held.{state}
use Rattle.inbox_table.specs.Calls.{joined}
use Rattle.inbox_table.specs.steps.Turns.{IsKeepingEach}
use Rattle.inbox_table.proofs.lists.put_one_by_one.Given as goal

abbrev pub invariant-loop-i : goal.invariant-loop-i
invariant-loop-i g l =
    let old = state g.S.Store l.fn.tx.conn.now in
    let now = state g.S.Store l.tx.conn.now in
    let part = take (l.to - l.from) (drop l.from l.lists) in
    let left = drop (l.i - l.from) part in
    (l.tx.conn.ghost_name ≡ l.fn.tx.conn.ghost_name) × Survives old now (λ _. ⊥)
    × (HasCleanDisk now → IsTrue old.in_transaction → IsKeepingEach l.rows part left old now l.all l.each)
    × (l.all + length (joined left) ≤ length (joined part))
    × (l.all ≡ sum l.each) × (length l.each ≡ l.i - l.from)
