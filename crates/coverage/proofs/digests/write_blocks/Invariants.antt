use Rattle.std.proofs.Common.{◌≡◌, ◌++◌}
use Rattle.coverage.specs.steps.Tokens.{blocks_tokens}
use Rattle.coverage.proofs.digests.write_blocks.Given as goal

abbrev pub invariant-loop-k : goal.invariant-loop-k
invariant-loop-k l = record {
  before : l.out.before ≡ l.fn.out.before;
  written : l.out.tokens ++ blocks_tokens l.k-iterator ≡ l.fn.out.tokens ++ blocks_tokens l.blocks.entries;
}
