use Rattle.std.proofs.Common.{◌≡◌}
use Rattle.checks.proofs.threads.take_many.Given as goal

abbrev pub invariant-loop-k : goal.invariant-loop-k
invariant-loop-k g l = l.own.table ≡ l.fn.pass.table
