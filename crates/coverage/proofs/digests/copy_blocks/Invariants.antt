use Rattle.std.proofs.Common.{◌≡◌, ◌++◌}
use Rattle.coverage.proofs.digests.copy_blocks.Given as goal

abbrev pub invariant-loop-k : goal.invariant-loop-k
invariant-loop-k l = l.own.entries ++ l.k-iterator ≡ l.blocks.entries
