use Rattle.std.proofs.Common.{◌≡◌, ◌++◌}
use Rattle.inbox.specs.Sets.{AreEvents}
use Rattle.event_files.specs.Files.{AreSequenced}
use Rattle.event_files.proofs.batch.sequenced.Given as goal

abbrev pub invariant-loop-event : goal.invariant-loop-event
invariant-loop-event l = record {
  whole : l.numbered.items ++ l.event-iterator.rest.items ≡ l.fn.events;
  numbered : AreSequenced l.numbered.items;
  events : AreEvents l.numbered.items;
}
