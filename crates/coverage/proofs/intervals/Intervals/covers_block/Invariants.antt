use Rattle.std.proofs.Common.{◌≡◌, ◌-◌, ◌*◌, ◌≤◌, ◌+◌}
use Rattle.coverage.proofs.RunLemmas.{CoversUpToIn}
use Rattle.coverage.proofs.intervals.Intervals.covers_block.Given as goal

abbrev pub invariant-loop-from : goal.invariant-loop-from
invariant-loop-from l = record {
  end_is : l.end ≡ 1024 * l.k + 1024;
  first_in : 1024 * l.k ≤ l.from;
  from_in : l.from ≤ l.end;
  covered : CoversUpToIn l.self l.other l.k l.from;
}

abbrev pub decreases-loop-from : goal.decreases-loop-from
decreases-loop-from l = l.end - l.from
