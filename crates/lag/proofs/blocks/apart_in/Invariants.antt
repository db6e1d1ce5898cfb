use Rattle.std.proofs.Common.{◌≡◌, ◌≤◌, ◌-◌, ◌+◌}
use Rattle.lag.specs.Blocks.{apart_in, span}
use Rattle.lag.proofs.blocks.apart_in.Given as goal

abbrev pub invariant-loop-block : goal.invariant-loop-block
invariant-loop-block l = (l.from ≤ l.block) × (l.count ≤ l.block - l.from)
    × (l.count + apart_in l.first l.second l.alone l.source (span l.block (l.to - l.block)) ≡ apart_in l.first l.second l.alone l.source (span l.from (l.to - l.from)))
