use Rattle.coverage.proofs.CoversLemmas.{CoversUpTo}
use Rattle.coverage.proofs.intervals.Intervals.covers.Given as goal

abbrev pub invariant-loop-first : goal.invariant-loop-first
invariant-loop-first l = CoversUpTo l.self l.other l.first-iterator
