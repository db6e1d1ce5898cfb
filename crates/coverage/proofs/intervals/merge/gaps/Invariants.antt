use Rattle.coverage.proofs.GapsLemmas.{AreGapsUpTo}
use Rattle.coverage.proofs.intervals.merge.gaps.Given as goal

abbrev pub invariant-loop-interval : goal.invariant-loop-interval
invariant-loop-interval l = AreGapsUpTo l.pairs l.top l.interval-index l.next l.found.items
