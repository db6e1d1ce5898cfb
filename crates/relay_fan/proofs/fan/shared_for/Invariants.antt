use Rattle.std.proofs.Common.{◌≡◌, length}
use Rattle.relay_fan.proofs.fan.shared_for.Given as goal

abbrev pub invariant-loop-lane : goal.invariant-loop-lane
invariant-loop-lane l = length l.refused.items ≡ l._lane
