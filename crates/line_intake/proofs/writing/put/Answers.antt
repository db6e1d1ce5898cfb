use Rattle.line_intake.proofs.WrittenLemmas.{Wrote-more}
use Rattle.line_intake.proofs.writing.put.Goals as goal

pub loop-preserved : goal.loop-preserved
loop-preserved g c = Wrote-more _ _ _ c.args.bytes.now c.loop.rest.now c.in-Ok.count c.loop.invariant c.in-Ok.ensures.bytes
