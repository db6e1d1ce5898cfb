use Rattle.std.proofs.Common.{◌≡◌, ◌≤◌, ◌-◌, IsTrue, drop, take}
use Rattle.sqlite.specs.State.{HasCleanDisk, Survives}
use Rattle.sqlite.specs.Held.{state}
use Rattle.inbox_table.specs.steps.Turns.{IsKeeping}
use Rattle.inbox_table.proofs.statement.put_each.Given as goal

abbrev pub invariant-loop-i : goal.invariant-loop-i
invariant-loop-i g l =
    let old = state g.S.Store l.fn.tx.conn.now in
    let now = state g.S.Store l.tx.conn.now in
    let L = take (l.to - l.from) (drop l.from (g.E.Listed.listed l.events)) in
    (l.tx.conn.ghost_name ≡ l.fn.tx.conn.ghost_name) × Survives old now (λ _. ⊥)
    × (HasCleanDisk now → IsTrue old.in_transaction → IsKeeping l.rows L (drop (l.i - l.from) L) old now l.fresh) × (l.fresh ≤ l.i - l.from)
