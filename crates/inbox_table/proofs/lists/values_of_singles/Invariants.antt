use Rattle.std.proofs.Common.{◌≡◌, drop, length, take}
use Rattle.sqlite.specs.Values.{bound}
use Rattle.inbox_table.specs.Calls.{joined}
use Rattle.inbox_table.specs.Rows.{AreNumbered}
use Rattle.inbox_table.specs.steps.Turns.{params_from}
use Rattle.inbox_table.proofs.lists.values_of_singles.Given as goal

abbrev pub invariant-loop-i : goal.invariant-loop-i
invariant-loop-i l =
    let L = joined (take l.i (drop l.from l.lists)) in
    (bound l.values.items ≡ params_from l.place L) × AreNumbered L × (length L ≡ l.i)
