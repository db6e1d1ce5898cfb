use Rattle.std.proofs.Common.{◌≡◌, ◌++◌}
use Rattle.coverage.specs.steps.Tokens.{intervals_tokens}
use Rattle.coverage.proofs.intervals.Intervals.write.Given as goal

abbrev pub invariant-loop-first : goal.invariant-loop-first
invariant-loop-first l = record {
  before : l.out.before ≡ l.fn.out.before;
  written : l.out.tokens ++ intervals_tokens l.first-iterator ≡ l.fn.out.tokens ++ intervals_tokens l.self;
}
