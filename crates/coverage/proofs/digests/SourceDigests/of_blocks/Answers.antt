use Rattle.coverage.proofs.DigestedLemmas.{listed}
use Rattle.coverage.proofs.digests.SourceDigests.of_blocks.Goals as goal

pub returns : goal.returns
returns g c = λ events kept. listed (g.E.Arrivals.arrivals c.args.events.now) c.in_ok-digests.field-0 (c.in_ok-digests.ensures events kept)
