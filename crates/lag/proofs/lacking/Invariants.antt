use Rattle.std.proofs.Common.{◌<◌, ℕ, ◌+◌, drop}
use Rattle.coverage.specs.Summary.{entries_of}
use Rattle.lag.specs.Lacking.{Lacks}
use Rattle.lag.proofs.lacking.Given as goal

abbrev pub invariant-loop-i : goal.invariant-loop-i
invariant-loop-i l = l.count < 18446744073709551615 → (more : ℕ) → Lacks l.own (drop l.i (entries_of l.peer)) more → Lacks l.own (entries_of l.peer) (l.count + more)
