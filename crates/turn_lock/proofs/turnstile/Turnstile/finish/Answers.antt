use Rattle.std.proofs.Common.{rules}
use Rattle.turn_lock.proofs.StepLemmas.{ends_turn}
use Rattle.turn_lock.proofs.turnstile.Turnstile.finish.Goals as goal

pub fetch_add-requires : goal.fetch_add-requires
fetch_add-requires g c = let i = c.requires.ready in
    (search rules, search rules, ends_turn _ _ _ _ _ _ _ i.object i.number i.call (search rules) i.holds i.named i.pending i.turn i.becomes i.fit)
