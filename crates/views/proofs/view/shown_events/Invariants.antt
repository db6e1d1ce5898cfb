use Rattle.std.proofs.Common.{◌≡◌, filter, map, take}
use Rattle.inbox.specs.Shown.{is_shown}
use Rattle.inbox.specs.Kept.{events}
use Rattle.views.proofs.view.shown_events.Given as goal

abbrev pub invariant-loop-i : goal.invariant-loop-i
invariant-loop-i l = map (λ e. e.now) l.list.items ≡ filter (is_shown (events l.inbox)) (take l.i (events l.inbox))
