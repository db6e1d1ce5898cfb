use Rattle.std.proofs.Common.{List}
use Rattle.attributes.specs.Event.{EventValue}
use Rattle.inbox_table.specs.steps.Reads.{AreShown, HasShown}
use Rattle.inbox_table.proofs.lookup.events_in.Given as goal

abbrev pub invariant-loop-row : goal.invariant-loop-row
invariant-loop-row l = (events : List EventValue) → AreShown l.rows events → HasShown l.rows l.row-index l.batch events
