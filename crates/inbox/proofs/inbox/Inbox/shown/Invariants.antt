use Rattle.std.proofs.Common.{◌≡◌, take, filter}
use Rattle.inbox.specs.Shown.{is_shown}
use Rattle.inbox.specs.Kept.{events}
use Rattle.inbox.proofs.inbox.Inbox.shown.Given as goal

abbrev pub invariant-loop-i : goal.invariant-loop-i
invariant-loop-i l = l.batch ≡ filter (is_shown (events l.self)) (take l.i (events l.self))
