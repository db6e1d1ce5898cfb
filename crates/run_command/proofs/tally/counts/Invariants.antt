use Rattle.std.proofs.Common.{◌≡◌, ◌≤◌, ◌*◌, take}
use Rattle.run_command.specs.Tally.{read_in, refused_in}
use Rattle.run_command.proofs.tally.counts.Given as goal

abbrev pub invariant-loop-report : goal.invariant-loop-report
invariant-loop-report l = (l.read ≡ read_in (take l.report-index l.reports)) × (l.refused ≡ refused_in (take l.report-index l.reports))
    × (l.read ≤ l.report-index * 18446744073709551615) × (l.refused ≤ l.report-index * 18446744073709551615)
