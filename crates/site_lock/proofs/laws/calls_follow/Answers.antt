use Rattle.site_lock.proofs.StepLemmas.{made_follows}
use Rattle.site_lock.proofs.laws.calls_follow.Goals as goal

pub returns : goal.returns
returns c = made_follows
