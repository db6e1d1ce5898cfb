use Rattle.coverage.specs.Numbers.{AreEntries, AreListed}
use Rattle.coverage.specs.steps.Entries.{sources_in}
use Rattle.coverage.proofs.JoinLemmas.{IsJoinedUpTo}
use Rattle.coverage.proofs.numbers.Numbers.join.Given as goal

abbrev pub invariant-loop-source : goal.invariant-loop-source
invariant-loop-source l = AreEntries (sources_in l.source-iterator) × AreListed l.both × IsJoinedUpTo l.self l.other (sources_in l.source-iterator) l.both
