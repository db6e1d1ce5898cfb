use Rattle.std.proofs.Common.{rules}
use Rattle.turn_lock.proofs.StepLemmas.{pends_call}
use Rattle.turn_lock.proofs.turnstile.Turnstile.pend.Goals as goal

pub load-requires : goal.load-requires
load-requires g c = let i = c.requires.said in (search rules, search rules, pends_call _ _ _ _ _ _ _ _ i.0 i.1)
