use Rattle.serde_json.specs.View.{view}
use Rattle.coverage.specs.steps.Entries.{sources_in}
use Rattle.coverage.proofs.ReadDigestsLemmas.{FitsUpTo}
use Rattle.coverage.proofs.numbers.Numbers.read_digests.Given as goal

abbrev pub invariant-loop-source : goal.invariant-loop-source
invariant-loop-source l = FitsUpTo l.self (sources_in l.source-iterator) (view l.blocks) l.digests
