use Rattle.std.proofs.Common.{◌≡◌, ◌++◌}
use Rattle.coverage.specs.steps.Entries.{sources_in}
use Rattle.coverage.specs.steps.Tokens.{sources_tokens}
use Rattle.coverage.proofs.numbers.Numbers.write.Given as goal

abbrev pub invariant-loop-source : goal.invariant-loop-source
invariant-loop-source l = record {
  before : l.out.before ≡ l.fn.out.before;
  written : l.out.tokens ++ sources_tokens (sources_in l.source-iterator) ≡ l.fn.out.tokens ++ sources_tokens l.self;
}
