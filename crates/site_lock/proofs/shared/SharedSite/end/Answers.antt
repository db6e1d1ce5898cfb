use Rattle.site_lock.proofs.SeatLemmas.{ends, leaves_numbered}
use Rattle.site_lock.proofs.shared.SharedSite.end.Goals as goal

pub returns-clause-rest : goal.returns-clause-rest
returns-clause-rest g c = ends c.args.seat.now.me c.leave.new.pass.me c.args.site _ c.requires.said c.requires.once c.leave.ensures.idle c.leave.ensures.ended

pub returns-clause-numbered : goal.returns-clause-numbered
returns-clause-numbered g c = leaves_numbered c.args.seat.now.me c.leave.new.pass.me c.args.site _ c.arrived-arrived.ensures.numbered c.requires.said c.leave.ensures.ended
