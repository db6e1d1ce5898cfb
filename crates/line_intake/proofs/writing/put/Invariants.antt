use Rattle.line_intake.specs.Written.{Wrote}
use Rattle.line_intake.proofs.writing.put.Given as goal

abbrev pub invariant-loop : goal.invariant-loop
invariant-loop g l = Wrote (g.W.Write.contents l.initial.to) (g.W.Write.contents l.to) l.bytes l.rest
