use Rattle.std.proofs.Common.{map, take}
use Rattle.inbox.specs.Kept.{events}
use Rattle.parts.specs.Told.{AreGathered}
use Rattle.parts.proofs.told.gather.Given as goal

abbrev pub invariant-loop-i : goal.invariant-loop-i
invariant-loop-i l = AreGathered l.query (map (λ t. t.now) (take l.i l.texts)) (events l.all) l.covers.items
