use Rattle.std.proofs.Common.{◌≡◌, ◌++◌}
use Rattle.event_files.proofs.batch.batch_of.Given as goal

abbrev pub invariant-loop-event : goal.invariant-loop-event
invariant-loop-event l = l.batch ++ l.event-iterator.rest.items ≡ l.initial.event-iterator.rest.items
