use Rattle.std.proofs.Common.{take}
use Rattle.numbers.proofs.KnownLemmas.{AreOthers}
use Rattle.numbers.proofs.known.number_among.Given as goal

abbrev pub invariant-loop-i : goal.invariant-loop-i
invariant-loop-i l = AreOthers l.event (take l.i l.rows)
