use Rattle.std.proofs.Common.{map, take}
use Rattle.parts.specs.Lines.{AreJoined}
use Rattle.parts.proofs.counts.read_counts.Given as goal

abbrev pub invariant-loop-i : goal.invariant-loop-i
invariant-loop-i g l = AreJoined g.R.CountRow.tells (map (λ t. t.now) (take l.i l.answers)) l.all
