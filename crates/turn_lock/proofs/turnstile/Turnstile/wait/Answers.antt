use Rattle.std.proofs.Common.{rules, ◌∙◌, ap}
use Rattle.turn_lock.proofs.StepLemmas.{comes_turn}
use Rattle.turn_lock.proofs.turnstile.Turnstile.wait.Goals as goal

pub load-ended-requires : goal.load-ended-requires
load-ended-requires g c = let i = c.requires.waits in let e = c.loop.invariant.2 in
    (search rules, search rules, comes_turn _ _ _ _ _ _ _ i.2.0 c.args.ticket (ap (λ m. m.0.number) e ∙ i.2.1) (ap (λ m. m.0.ticket) e ∙ i.0) (ap (λ m. m.0.has_turn) e ∙ i.1))
