use Rattle.std.proofs.Common.{◌≡◌, ◌++◌, map}
use Rattle.std.specs.Map.Iter.{deref_pair}
use Rattle.coverage.specs.steps.Entries.{sources_in}
use Rattle.coverage.proofs.numbers.Numbers.entries.Given as goal

abbrev pub invariant-loop-source : goal.invariant-loop-source
invariant-loop-source l = map deref_pair l.entries.items ++ sources_in l.source-iterator ≡ l.self
