use Rattle.std.proofs.Common.{◌≡◌, map, take}
use Rattle.views.proofs.view.lent.Given as goal

abbrev pub invariant-loop-i : goal.invariant-loop-i
invariant-loop-i l = map (λ e. e.now) l.list.items ≡ take l.i l.batch
