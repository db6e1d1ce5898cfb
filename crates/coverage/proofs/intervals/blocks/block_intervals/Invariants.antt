use Rattle.coverage.proofs.SpanLemmas.{AreSpansUpTo}
use Rattle.coverage.proofs.intervals.blocks.block_intervals.Given as goal

abbrev pub invariant-loop-interval : goal.invariant-loop-interval
invariant-loop-interval l = AreSpansUpTo l.pairs l.interval-index l.found.items
