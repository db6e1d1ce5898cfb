use Rattle.std.proofs.Common.{◌≡◌, drop, take}
use Rattle.sqlite.specs.Values.{bound}
use Rattle.inbox_table.specs.Rows.{AreNumbered}
use Rattle.inbox_table.specs.steps.Turns.{params_from}
use Rattle.inbox_table.proofs.statement.values_of.Given as goal

abbrev pub invariant-loop-i : goal.invariant-loop-i
invariant-loop-i g l =
    let L = take l.i (drop l.from (g.E.Listed.listed l.events)) in
    (bound l.values.items ≡ params_from l.place L) × AreNumbered L
