use Rattle.std.proofs.Common.{rules}
use Rattle.turn_lock.proofs.StepLemmas.{counts_turns}
use Rattle.turn_lock.proofs.turnstile.Turnstile.turns.Goals as goal

pub load-requires : goal.load-requires
load-requires g c = (search rules, search rules, counts_turns _ _ _ _ _ _ _)
