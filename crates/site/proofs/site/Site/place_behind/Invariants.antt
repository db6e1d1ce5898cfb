use Rattle.std.proofs.Common.{◌≡◌, drop}
use Rattle.inbox.specs.Sets.{set_of}
use Rattle.site.specs.Delta.{delta, lacking_of}
use Rattle.site.proofs.site.Site.place_behind.Given as goal

abbrev pub invariant-loop-i : goal.invariant-loop-i
invariant-loop-i l = drop l.left (lacking_of (set_of l.self) l.peer (drop l.i (set_of l.self))) ≡ drop l.from (delta (set_of l.self) l.peer)
