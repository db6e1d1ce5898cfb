use Rattle.std.proofs.Common.{◌≡◌, Some, replicate}
use Rattle.inbox.specs.Kept.{events}
use Rattle.kept_views.specs.steps.Among.{AreTablesOf, shown_before}
use Rattle.kept_views.proofs.kept.Views.of.Given as goal

abbrev pub invariant-loop-i : goal.invariant-loop-i
invariant-loop-i l = AreTablesOf l.inbox.arrivals (shown_before l.i (events l.inbox)) l.views × (l.views.states ≡ replicate 3 (Some l.fn.state))
