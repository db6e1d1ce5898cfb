use Rattle.std.proofs.Common.{◌≡◌, ◌≤◌, ◌*◌, ℕ, IsTrue, drop, length, min}
use Rattle.sqlite.specs.State.{HasCleanDisk, Survives}
use Rattle.sqlite.specs.Held.{state}
use Rattle.inbox_table.specs.steps.Turns.{IsKeeping}
use Rattle.inbox_table.proofs.statement.put_all.Given as goal

abbrev pub invariant-loop-group : goal.invariant-loop-group
invariant-loop-group g l =
    let old = state g.S.Store l.fn.tx.conn.now in
    let now = state g.S.Store l.tx.conn.now in
    let L = g.E.Listed.listed l.events in
    let put = min (l.group * 8) (length L) in
    (l.tx.conn.ghost_name ≡ l.fn.tx.conn.ghost_name) × Survives old now (λ _. ⊥)
    × (HasCleanDisk now → IsTrue old.in_transaction → IsKeeping l.rows L (drop put L) old now l.fresh) × (l.fresh ≤ put)
    × ((n : ℕ) → 1 ≤ n → n * 1000 ≤ put → g.W.Watch.told l.watch (n * 1000) (length L))
