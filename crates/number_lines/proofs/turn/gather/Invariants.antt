use Rattle.std.proofs.Common.{◌≤◌, ◌+◌}
use Rattle.std.specs.Io.KnownBytes.{prepend_known}
use Rattle.number_lines.specs.Judged.{IsGatheredToNumber}
use Rattle.number_lines.proofs.turn.gather.Given as goal

abbrev pub invariant-loop : goal.invariant-loop
invariant-loop g l =
    IsGatheredToNumber l.aside l.before l.gathered.lines (prepend_known l.fn.pending (g.R.Read.remaining l.fn.input)) (prepend_known l.pending (g.R.Read.remaining l.input)) l.gathered.tells l.gathered.lists
    × (l.gathered.lines ≤ l.before + l.counter)
