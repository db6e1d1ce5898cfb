use Rattle.std.proofs.Common.{◌≡◌, take, drop}
use Rattle.site.proofs.site.Site.arrivals_after.Given as goal

abbrev pub invariant-loop-k : goal.invariant-loop-k
invariant-loop-k l = l.batch ≡ take l.k (drop l.n l.self)
