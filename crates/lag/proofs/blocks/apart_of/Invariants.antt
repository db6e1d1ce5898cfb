use Rattle.std.proofs.Common.{◌≡◌, ◌≤◌, ◌<◌, ◌+◌, ℕ, drop, length}
use Rattle.coverage.specs.Intervals.{interval_at}
use Rattle.lag.specs.Blocks.{apart_in, apart_of, blocks_from}
use Rattle.lag.proofs.blocks.apart_of.Given as goal

abbrev pub invariant-loop-i : goal.invariant-loop-i
invariant-loop-i l = (l.i ≤ length l.numbers)
    × ((j : ℕ) → j < l.i → (interval_at l.numbers j).0 < l.from)
    × ((j : ℕ) → l.i ≤ j → j < length l.numbers → l.from ≤ (interval_at l.numbers j).0)
    × (l.count < 18446744073709551615 → l.count + apart_in l.first l.second l.alone l.source (blocks_from l.block (drop l.i l.numbers)) ≡ apart_of l.first l.second l.alone l.source l.numbers)
