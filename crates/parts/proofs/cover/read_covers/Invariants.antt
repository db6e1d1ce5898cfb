use Rattle.std.proofs.Common.{map, take}
use Rattle.parts.specs.Combined.{AreCovers}
use Rattle.parts.proofs.cover.read_covers.Given as goal

abbrev pub invariant-loop-i : goal.invariant-loop-i
invariant-loop-i l = AreCovers (map (λ t. t.now) (take l.i l.covers)) l.summaries.items
