use Rattle.std.proofs.Common.{rules, ap}
use Rattle.turn_lock.proofs.StepLemmas.{merges, learns_all}
use Rattle.turn_lock.proofs.TurnLemmas.{met}
use Rattle.turn_lock.proofs.turnstile.Turnstile.meet.Goals as goal

pub join_seat-requires : goal.join_seat-requires
join_seat-requires g c = let i = c.requires.idle in let e = c.note-note.ensures.note.1 in
    (search rules, search rules, search rules, search rules, merges _ _ _ _ _ _ _ _ _ i.no_turn (ap (λ m. m.0.number) e) (ap (λ m. m.0.has_turn) e) (ap (λ m. m.0.splits) e))

pub load-requires : goal.load-requires
load-requires g c = (search rules, search rules, learns_all _ _ _ _ _ _ _)

pub returns-clause-idle : goal.returns-clause-idle
returns-clause-idle g c = let i = met _ _ _ c.args.me.now.me c.join_seat.new.seat.me c.load.new.seat.me c.args.other.now.me.0 c.note-note.result.me.0 c.requires.idle (ap (λ m. m.0) c.note-note.ensures.note.1) (search rules) c.load.ensures.2.0 c.load.ensures.2.1 c.load.ensures.2.2 in i.idle

pub returns-clause-met : goal.returns-clause-met
returns-clause-met g c = let i = met _ _ _ c.args.me.now.me c.join_seat.new.seat.me c.load.new.seat.me c.args.other.now.me.0 c.note-note.result.me.0 c.requires.idle (ap (λ m. m.0) c.note-note.ensures.note.1) (search rules) c.load.ensures.2.0 c.load.ensures.2.1 c.load.ensures.2.2 in i.meets
