use Rattle.coverage.proofs.BlockLemmas.{same_digests_held}
use Rattle.coverage.proofs.digests.SourceDigests.same.Goals as goal

pub returns : goal.returns
returns c = same_digests_held _ _ c.args.self.now c.args.other.now c.eq.result c.self.view_is c.other.view_is c.eq.ensures
