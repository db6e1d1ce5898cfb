use Rattle.coverage.specs.steps.Entries.{sources_in}
use Rattle.coverage.proofs.CompareLemmas.{IsCoveredUpTo}
use Rattle.coverage.proofs.numbers.Numbers.covers.Given as goal

abbrev pub invariant-loop-source : goal.invariant-loop-source
invariant-loop-source l = IsCoveredUpTo l.self l.other (sources_in l.source-iterator)
