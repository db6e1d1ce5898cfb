use Rattle.std.proofs.Common.{rules}
use Rattle.turn_lock.proofs.TurnLemmas.{holds_it, entered}
use Rattle.turn_lock.proofs.turnstile.Turnstile.enter.Goals as goal

pub exchange-requires : goal.exchange-requires
exchange-requires g c = (search rules, holds_it _ _ _ _ _ c.wait.ensures.come)

pub returns-clause-turn : goal.returns-clause-turn
returns-clause-turn g c = let i = entered _ _ _ c.args.pass.now.me c.draw-ticket.new.pass.me c.wait.new.pass.me c.exchange.new.seat.me _ c.in-Some.object c.requires.idle c.draw-ticket.ensures.drawn c.wait.ensures.come (search rules) (search rules) in i.turn

pub returns-clause-hears : goal.returns-clause-hears
returns-clause-hears g c = let i = entered _ _ _ c.args.pass.now.me c.draw-ticket.new.pass.me c.wait.new.pass.me c.exchange.new.seat.me _ c.in-Some.object c.requires.idle c.draw-ticket.ensures.drawn c.wait.ensures.come (search rules) (search rules) in i.hears
