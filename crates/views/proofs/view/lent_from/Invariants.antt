use Rattle.std.proofs.Common.{◌≡◌, drop, map, take}
use Rattle.inbox.specs.Kept.{events}
use Rattle.views.proofs.view.lent_from.Given as goal

abbrev pub invariant-loop-k : goal.invariant-loop-k
invariant-loop-k l = map (λ e. e.now) l.list.items ≡ take l.k (drop l.i (events l.inbox))
