use Rattle.std.proofs.Common.{subst, sym}
use Rattle.sqlite.specs.Held.{state}
use Rattle.sqlite.specs.State.{HasCleanDisk}
use Rattle.outbox.specs.Call.{CommandEffect}
use Rattle.outbox.specs.declared.status.Status.{Status}
use Rattle.library_calls.proofs.outbox_calls.command.Goals as goal

pub returns-in-Placed-clause-effect : goal.returns-in-Placed-clause-effect
returns-in-Placed-clause-effect g c = subst (λ (s : Status). HasCleanDisk (state g.S.Store c.place.new.self.conn) → CommandEffect (record { status = s; order = c.args.order; at = c.args.at.now })
    c.args.service.now (state g.S.Store c.args.service.now.conn) (state g.S.Store c.place.new.self.conn) c.place.result) (sym c.in-Placed.is) c.place.ensures.effect

pub returns-in-Shipped-clause-effect : goal.returns-in-Shipped-clause-effect
returns-in-Shipped-clause-effect g c = subst (λ (s : Status). HasCleanDisk (state g.S.Store c.ship.new.self.conn) → CommandEffect (record { status = s; order = c.args.order; at = c.args.at.now })
    c.args.service.now (state g.S.Store c.args.service.now.conn) (state g.S.Store c.ship.new.self.conn) c.ship.result) (sym c.in-Shipped.is) c.ship.ensures.effect

pub returns-in-Cancelled-clause-effect : goal.returns-in-Cancelled-clause-effect
returns-in-Cancelled-clause-effect g c = subst (λ (s : Status). HasCleanDisk (state g.S.Store c.cancel.new.self.conn) → CommandEffect (record { status = s; order = c.args.order; at = c.args.at.now })
    c.args.service.now (state g.S.Store c.args.service.now.conn) (state g.S.Store c.cancel.new.self.conn) c.cancel.result) (sym c.in-Cancelled.is) c.cancel.ensures.effect
