use Rattle.std.proofs.Common.{◌≡◌, ◌++◌, map}
use Rattle.views.proofs.view.latest_in_order.Given as goal

abbrev pub invariant-loop-entry : goal.invariant-loop-entry
invariant-loop-entry l = map (λ e. e.now) l.list.items ++ map (λ e. e.1.now) l.entry-iterator ≡ map (λ e. e.1.now) l.table.entries
