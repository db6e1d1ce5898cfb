use Rattle.keeper.proofs.LawLemmas.{kept}
use Rattle.keeper.proofs.laws.acknowledged_are_kept.Goals as goal

pub returns : goal.returns
returns c = kept c.calls_follow.ensures
