use Rattle.std.proofs.Common.{◌≡◌, ◌++◌, length}
use Rattle.event_files.proofs.intake.append.Given as goal

abbrev pub invariant-loop-event : goal.invariant-loop-event
invariant-loop-event l = l.events ++ l.more ≡ l.initial.events ++ l.initial.more

abbrev pub decreases-loop-event : goal.decreases-loop-event
decreases-loop-event l = length l.more
