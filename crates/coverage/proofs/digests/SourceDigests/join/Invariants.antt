use Rattle.coverage.specs.steps.Blocks.{blocks_in}
use Rattle.coverage.proofs.JoinLemmas.{IsJoinedUpTo}
use Rattle.coverage.proofs.digests.SourceDigests.join.Given as goal

abbrev pub invariant-loop-source : goal.invariant-loop-source
invariant-loop-source l = IsJoinedUpTo l.self l.other (blocks_in l.source-iterator) l.both
