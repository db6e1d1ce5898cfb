use Rattle.std.proofs.Common.{◌≡◌, map, take}
use Rattle.site_commands.proofs.combine.texts_in.Given as goal

abbrev pub invariant-loop-i : goal.invariant-loop-i
invariant-loop-i l = map (λ t. t.now) l.texts.items ≡ take l.i l.contents
