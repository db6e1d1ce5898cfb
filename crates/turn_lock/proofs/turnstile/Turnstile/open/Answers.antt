use Rattle.std.proofs.Common.{rules}
use Rattle.turn_lock.proofs.StepLemmas.{opens_with}
use Rattle.turn_lock.proofs.turnstile.Turnstile.open.Goals as goal

pub new-requires : goal.new-requires
new-requires g c = opens_with _ _ _ c.args.object _ _ (search rules) (search rules)
