use Rattle.std.proofs.Common.{◌≡◌}
use Rattle.event_files.proofs.key_order.+left.Given as goal

abbrev pub decreases-sort_places : goal.decreases-sort_places
decreases-sort_places l = l.left

abbrev pub invariant-loop-alike : goal.invariant-loop-alike
invariant-loop-alike l =
    (goal.iterator-loop-alike).can_next l.alike-iterator ×
    (goal.iterator-loop-alike).is_finite l.alike-iterator
