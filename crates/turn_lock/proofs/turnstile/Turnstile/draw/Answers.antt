use Rattle.std.proofs.Common.{rules, ◌∙◌, ap, refl}
use Rattle.turn_lock.proofs.StepLemmas.{draws_ticket}
use Rattle.turn_lock.proofs.turnstile.Turnstile.draw.Goals as goal

pub compare_exchange-found-requires : goal.compare_exchange-found-requires
compare_exchange-found-requires g c = let i = c.requires.idle in let e = c.loop.invariant.2 in
    (search rules, search rules, draws_ticket _ _ _ _ _ _ _ _ _ i.2.0 (ap (λ m. m.0.number) e ∙ i.2.1) (ap (λ m. m.0.ticket) e ∙ i.0) (ap (λ m. m.0.has_turn) e ∙ i.1) refl (search rules))
