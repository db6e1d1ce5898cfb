use Rattle.std.proofs.Common.{◌≡◌, map, take}
use Rattle.views.proofs.view.copied.Given as goal

abbrev pub invariant-loop-event : goal.invariant-loop-event
invariant-loop-event l = l.batch ≡ map (λ e. e.now) (take l.event-index l.list)
