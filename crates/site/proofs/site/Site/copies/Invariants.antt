use Rattle.std.proofs.Common.{◌≡◌, take, drop}
use Rattle.inbox.specs.Sets.{set_of}
use Rattle.site.proofs.site.Site.copies.Given as goal

abbrev pub invariant-loop-k : goal.invariant-loop-k
invariant-loop-k l = l.batch ≡ take l.k (drop l.place (set_of l.self))
