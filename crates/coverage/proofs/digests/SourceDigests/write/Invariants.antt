use Rattle.std.proofs.Common.{◌≡◌, ◌++◌}
use Rattle.coverage.specs.steps.Blocks.{blocks_in}
use Rattle.coverage.specs.steps.Tokens.{digests_tokens}
use Rattle.coverage.proofs.digests.SourceDigests.write.Given as goal

abbrev pub invariant-loop-source : goal.invariant-loop-source
invariant-loop-source l = record {
  before : l.out.before ≡ l.fn.out.before;
  written : l.out.tokens ++ digests_tokens (blocks_in l.source-iterator) ≡ l.fn.out.tokens ++ digests_tokens l.self;
}
