use Rattle.std.proofs.Common.{sym, subst}
use Rattle.sqlite.specs.Held.{Held, state}
use Rattle.sqlite.specs.State.{HasCleanDisk}
use Rattle.outbox.specs.Order.{Accepted}
use Rattle.outbox.specs.declared.status.Status.TheVariants.{Placed}
use Rattle.reopening.specs.Services.{GaveCommand}
use Rattle.reopening.proofs.CallLemmas.{gave_command}
use Rattle.reopening.proofs.calls.place_order.Goals as goal

pub returns : goal.returns
returns g c =
    let placed : Accepted = record { status = Placed; order = c.args.order; at = c.args.at.now } in
    subst (λ (h : Held _). HasCleanDisk (state g.S.Store h) → GaveCommand (λ conn. state g.S.Store conn) c.args.conn c.args.source.now c.args.base placed h) (sym c.into_connection.ensures)
    (gave_command (λ conn. state g.S.Store conn) c.args.conn c.place-answer.new.self.conn c.in-Ok.service c.in-Ok-open.service c.args.source.now c.args.base placed
    c.into_connection-conn.result c.into_connection-conn.ensures c.in-Ok.ensures.opened c.schema-schema.ensures.live c.in-Ok-open.ensures.opened
    (λ clean. (c.place-answer.ensures.effect clean).clean) (λ clean. (c.place-answer.ensures.effect clean).crash))
