use Rattle.std.proofs.Common.{◌≡◌, take}
use Rattle.site.proofs.site.lent.Lent.copied.Given as goal

abbrev pub invariant-loop-i : goal.invariant-loop-i
invariant-loop-i l = l.batch ≡ take l.i l.self
