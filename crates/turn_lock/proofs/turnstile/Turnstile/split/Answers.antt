use Rattle.std.proofs.Common.{rules, ap, ◌∙◌}
use Rattle.turn_lock.proofs.StepLemmas.{allows_split, splits_pass}
use Rattle.turn_lock.proofs.TurnLemmas.{split_in_two}
use Rattle.turn_lock.proofs.turnstile.Turnstile.split.Goals as goal

pub load-requires : goal.load-requires
load-requires g c = (search rules, search rules, allows_split _ _ _ _ _ _ _ c.requires.idle.no_turn)

pub split_seat-requires : goal.split_seat-requires
split_seat-requires g c = let i = c.requires.idle in let e = c.load.ensures.2 in (search rules, search rules, splits_pass _ _ _ _ _ _ i.number (ap (λ m. m.0.number) e ∙ i.named) (ap (λ m. m.0.marked) e))

pub returns-clause-old : goal.returns-clause-old
returns-clause-old g c = let i = split_in_two _ _ _ c.args.pass.now.me c.load.new.seat.me c.split_seat.new.seat.me c.split_seat.result.me c.requires.idle c.load.ensures.2 (search rules) (search rules) in i.old

pub returns-clause-counted : goal.returns-clause-counted
returns-clause-counted g c = let i = split_in_two _ _ _ c.args.pass.now.me c.load.new.seat.me c.split_seat.new.seat.me c.split_seat.result.me c.requires.idle c.load.ensures.2 (search rules) (search rules) in i.counts

pub returns-clause-idle : goal.returns-clause-idle
returns-clause-idle g c = let i = split_in_two _ _ _ c.args.pass.now.me c.load.new.seat.me c.split_seat.new.seat.me c.split_seat.result.me c.requires.idle c.load.ensures.2 (search rules) (search rules) in i.new

pub returns-clause-new : goal.returns-clause-new
returns-clause-new g c = let i = split_in_two _ _ _ c.args.pass.now.me c.load.new.seat.me c.split_seat.new.seat.me c.split_seat.result.me c.requires.idle c.load.ensures.2 (search rules) (search rules) in i.off
