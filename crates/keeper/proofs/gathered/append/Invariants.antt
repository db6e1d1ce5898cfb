use Rattle.std.proofs.Common.{◌≡◌, ◌++◌, length}
use Rattle.keeper.proofs.gathered.append.Given as goal

abbrev pub invariant-events : goal.invariant-events
invariant-events l = l.events ++ l.page ≡ l.initial.events ++ l.initial.page

abbrev pub decreases-events : goal.decreases-events
decreases-events l = length l.page
