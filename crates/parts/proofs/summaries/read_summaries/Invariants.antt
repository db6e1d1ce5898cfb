use Rattle.std.proofs.Common.{map, take}
use Rattle.parts.specs.Summaries.{AreSummaryLines}
use Rattle.parts.proofs.summaries.read_summaries.Given as goal

abbrev pub invariant-loop-i : goal.invariant-loop-i
invariant-loop-i l = AreSummaryLines (map (λ t. t.now) (take l.i l.texts)) l.summaries.items
