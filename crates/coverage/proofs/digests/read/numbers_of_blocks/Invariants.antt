use Rattle.coverage.proofs.ReadDigestsLemmas.{ArePlacesUpTo}
use Rattle.coverage.proofs.digests.read.numbers_of_blocks.Given as goal

abbrev pub invariant-loop-k : goal.invariant-loop-k
invariant-loop-k l = ArePlacesUpTo l.blocks.entries l.k-iterator l.found
