use Rattle.std.proofs.Common.{◌≡◌, ◌++◌}
use Rattle.coverage.specs.steps.Entries.{sources_in}
use Rattle.coverage.proofs.numbers.Numbers.copy.Given as goal

abbrev pub invariant-loop-source : goal.invariant-loop-source
invariant-loop-source l = l.own ++ sources_in l.source-iterator ≡ l.self
