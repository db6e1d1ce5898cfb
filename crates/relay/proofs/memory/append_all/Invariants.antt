use Rattle.relay.proofs.RouteLemmas.{Appended}
use Rattle.relay.proofs.memory.append_all.Given as goal

abbrev pub invariant-loop-i : goal.invariant-loop-i
invariant-loop-i l = Appended l.batch l.fn.events l.i l.events
