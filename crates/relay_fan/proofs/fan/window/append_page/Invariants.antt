use Rattle.std.proofs.Common.{◌≡◌, ◌++◌, length}
use Rattle.relay_fan.proofs.fan.window.append_page.Given as goal

abbrev pub invariant-events : goal.invariant-events
invariant-events l = l.rows ++ l.page ≡ l.initial.rows ++ l.initial.page

abbrev pub decreases-events : goal.decreases-events
decreases-events l = length l.page
