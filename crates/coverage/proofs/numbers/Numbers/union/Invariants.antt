use Rattle.coverage.specs.steps.Entries.{sources_in}
use Rattle.coverage.proofs.UnionLemmas.{IsUnitedUpTo}
use Rattle.coverage.proofs.numbers.Numbers.union.Given as goal

abbrev pub invariant-loop-source : goal.invariant-loop-source
invariant-loop-source l = IsUnitedUpTo l.self l.other (sources_in l.source-iterator) l.both
