use Rattle.site.proofs.AmongLemmas.{AreHandled}
use Rattle.site.proofs.site.Site.places_for.Given as goal

abbrev pub invariant-loop-i : goal.invariant-loop-i
invariant-loop-i l = AreHandled l.self l.peer l.own l.self-inside.blocks.blocks l.found l.i
