use Rattle.std.proofs.Common.{◌≡◌, take}
use Rattle.inbox.specs.Kept.{events}
use Rattle.inbox.specs.Sets.{set_of}
use Rattle.parts.proofs.told.set_of_copies.Given as goal

abbrev pub invariant-loop-event : goal.invariant-loop-event
invariant-loop-event l = events l.inbox ≡ set_of (take l.event-index l.list)
