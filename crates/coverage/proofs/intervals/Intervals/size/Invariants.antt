use Rattle.std.proofs.Common.{◌≡◌, ◌+◌, true}
use Rattle.coverage.specs.Intervals.{rises_from, size_of}
use Rattle.coverage.proofs.intervals.Intervals.size.Given as goal

abbrev pub invariant-loop-first : goal.invariant-loop-first
invariant-loop-first l = record {
  counted : l.size + size_of l.first-iterator ≡ size_of l.self;
  rises : rises_from 0 l.first-iterator ≡ true;
}
