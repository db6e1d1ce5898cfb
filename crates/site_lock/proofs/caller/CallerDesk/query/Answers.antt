use Rattle.site_lock.proofs.StepLemmas.{made_steps, made_follows}
use Rattle.site_lock.proofs.caller.CallerDesk.query.Goals as goal

pub returns-clause-went : goal.returns-clause-went
returns-clause-went g c = made_steps _ _ _ c.query.ensures.made

pub returns-clause-step : goal.returns-clause-step
returns-clause-step g c = made_follows _ _ _ c.query.ensures.made
