use Rattle.std.proofs.Common.{map, take}
use Rattle.std.specs.Map.Iter.{deref_pair}
use Rattle.views.specs.steps.Gaps.{AreGapsOf}
use Rattle.parts.proofs.gaps.gaps_of.Given as goal

abbrev pub invariant-loop-entry : goal.invariant-loop-entry
invariant-loop-entry l = AreGapsOf (map deref_pair (take l.entry-index l.entries)) l.rows
