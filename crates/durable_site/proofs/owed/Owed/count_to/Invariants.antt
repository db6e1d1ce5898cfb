use Rattle.std.proofs.Common.{◌≡◌, ◌++◌, ◌+◌, length}
use Rattle.inbox.specs.KeyOrder.{key_cmp}
use Rattle.inbox.specs.Ordered.{append_new}
use Rattle.inbox_table.specs.Calls.{joined}
use Rattle.durable_site.proofs.owed.Owed.count_to.Given as goal

abbrev pub invariant-loop-i : goal.invariant-loop-i
invariant-loop-i l = (append_new key_cmp l.site (l.self-inside.front ++ joined l.self-inside.behind.items) ≡ append_new key_cmp l.fn.site l.fn.self)
    × (length l.self-inside.behind.items + l.i ≡ l.i-end)
