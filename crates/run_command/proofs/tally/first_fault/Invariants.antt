use Rattle.std.proofs.Common.{◌≡◌, ◌-◌, drop}
use Rattle.run_command.specs.Tally.{first_fault}
use Rattle.run_command.proofs.tally.first_fault.Given as goal

abbrev pub invariant-loop-place : goal.invariant-loop-place
invariant-loop-place l = first_fault 0 l.feeds l.reports ≡ first_fault l.place (l.feeds - l.place) (drop l.place l.reports)
