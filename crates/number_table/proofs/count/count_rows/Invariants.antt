use Rattle.std.proofs.Common.{IsTrue, List, take, ◌*◌}
use Rattle.sqlite.specs.Held.{state}
use Rattle.sqlite.specs.State.{HasCleanDisk}
use Rattle.attributes.specs.Event.{EventValue}
use Rattle.numbers.specs.Counts.{IsCountOfRows}
use Rattle.number_table.specs.Calls.{from}
use Rattle.number_table.specs.Counting.{HasRows}
use Rattle.number_table.specs.Lookups.{LooksUp}
use Rattle.number_table.proofs.count.count_rows.Given as goal

abbrev pub invariant-loop-k : goal.invariant-loop-k
invariant-loop-k g l =
    let old = state g.S.Store l.fn.table.conn in
    let now = state g.S.Store l.table.conn in
    LooksUp old now × (HasCleanDisk now → IsTrue old.is_open → IsTrue now.is_open) × (HasCleanDisk now → (rows : List EventValue) → HasRows old rows → IsCountOfRows (from l.base) (take (l.k * 1000) rows) l.counted)
