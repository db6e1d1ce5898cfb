use Rattle.std.proofs.Common.{◌≡◌}
use Rattle.sqlite.specs.Held.{state}
use Rattle.sqlite.specs.State.{HasCleanDisk, Survives}
use Rattle.inbox_table.specs.steps.Reads.{HasRead}
use Rattle.inbox_table.proofs.reading.read_rows.Given as goal

abbrev pub invariant-loop-place : goal.invariant-loop-place
invariant-loop-place g l =
    let old = state g.S.Store l.fn.rows.conn.now in
    let now = state g.S.Store l.rows.conn.now in
    (l.rows.conn.ghost_name ≡ l.fn.rows.conn.ghost_name) × Survives old now (λ _. ⊥) × (HasCleanDisk now → HasRead l.version g.S.Store l.fn.rows.conn.now l.rows.conn.now (g.W.Wanted.wanted l.wanted) l.place l.events)
