use Rattle.std.proofs.Common.{◌≡◌, ◌<◌, ◌+◌, drop}
use Rattle.coverage.specs.Summary.{entries_of}
use Rattle.lag.specs.Blocks.{apart}
use Rattle.lag.proofs.blocks.apart.Given as goal

abbrev pub invariant-loop-i : goal.invariant-loop-i
invariant-loop-i l = l.count < 18446744073709551615 → l.count + apart l.first l.second l.alone (drop l.i (entries_of l.first)) ≡ apart l.first l.second l.alone (entries_of l.first)
