use Rattle.site_lock.proofs.SeatLemmas.{true_from}
use Rattle.site_lock.proofs.pass.Pass.stands.Goals as goal

pub returns : goal.returns
returns c = true_from _ c.args.self.now c.self.inside.seat.me c.self.view_is c.self.invariant
