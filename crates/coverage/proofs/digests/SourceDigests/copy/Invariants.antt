use Rattle.std.proofs.Common.{◌≡◌, ◌++◌}
use Rattle.coverage.specs.steps.Blocks.{blocks_in}
use Rattle.coverage.proofs.digests.SourceDigests.copy.Given as goal

abbrev pub invariant-loop-source : goal.invariant-loop-source
invariant-loop-source l = blocks_in l.sources.entries ++ blocks_in l.source-iterator ≡ l.self
