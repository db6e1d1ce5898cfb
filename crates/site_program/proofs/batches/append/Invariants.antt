use Rattle.std.proofs.Common.{◌≡◌, ◌++◌}
use Rattle.site_program.proofs.batches.append.Given as goal

abbrev pub invariant-loop-value : goal.invariant-loop-value
invariant-loop-value g l = l.list ++ l.value-iterator.rest.items ≡ l.initial.list ++ l.initial.value-iterator.rest.items
