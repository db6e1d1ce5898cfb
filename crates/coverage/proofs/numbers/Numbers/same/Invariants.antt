use Rattle.coverage.specs.steps.Entries.{sources_in}
use Rattle.coverage.proofs.CompareLemmas.{IsSameUpTo}
use Rattle.coverage.proofs.numbers.Numbers.same.Given as goal

abbrev pub invariant-loop-source : goal.invariant-loop-source
invariant-loop-source l = IsSameUpTo l.self l.other (sources_in l.source-iterator) (sources_in l.others)
