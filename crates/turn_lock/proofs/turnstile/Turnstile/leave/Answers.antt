use Rattle.std.proofs.Common.{rules, ◌≡◌, ◌∙◌, sym, subst}
use Rattle.std.specs.Prelude.{Some}
use Rattle.turn_lock.specs.Turn.{Adds}
use Rattle.turn_lock.proofs.TurnLemmas.{holds_slot, is_ready, left}
use Rattle.turn_lock.proofs.turnstile.Turnstile.leave.Goals as goal

pub exchange-requires : goal.exchange-requires
exchange-requires g c = let s = c.requires.said in (search rules, holds_slot _ _ _ c.args.pass.now.me c.pend.new.pass.me c.args.object s.0 s.2 (c.pend.ensures.noted s.0 s.1))

pub finish-requires-clause-ready : goal.finish-requires-clause-ready
finish-requires-clause-ready g c = let s = c.requires.said in is_ready _ _ _ c.args.pass.now.me c.pend.new.pass.me c.exchange.new.seat.me c.args.object s.0 s.2 (c.pend.ensures.noted s.0 s.1) (search rules)

pub returns-clause-idle : goal.returns-clause-idle
returns-clause-idle g c = let s = c.requires.said in
    let i = left _ _ _ c.args.pass.now.me c.pend.new.pass.me c.exchange.new.seat.me c.finish.new.pass.me c.args.object s.0 s.2 (c.pend.ensures.noted s.0 s.1) (search rules) c.finish.ensures.ended in i.idle

pub returns-clause-ended : goal.returns-clause-ended
returns-clause-ended g c = λ n d named says. let s = c.requires.said in
    let same : s.0 ≡ d = (let z : Some s.0 ≡ Some d = sym s.1 ∙ says in cc) in
    let i = left _ _ _ c.args.pass.now.me c.pend.new.pass.me c.exchange.new.seat.me c.finish.new.pass.me c.args.object s.0 s.2 (c.pend.ensures.noted s.0 s.1) (search rules) c.finish.ensures.ended in
    subst (λ z. Adds n z c.args.pass.now.me.0 c.finish.new.pass.me.0) same (i.adds n named)
