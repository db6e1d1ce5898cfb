use Rattle.std.proofs.Common.{sym, subst}
use Rattle.sqlite.specs.Held.{Held, state}
use Rattle.sqlite.specs.State.{HasCleanDisk}
use Rattle.reopening.specs.Lists.{GaveEvents}
use Rattle.reopening.proofs.CallLemmas.{gave_events}
use Rattle.reopening.proofs.calls.give_events.Goals as goal

pub returns : goal.returns
returns g c =
    subst (λ (h : Held _). HasCleanDisk (state g.S.Store h) → GaveEvents (λ conn. state g.S.Store conn) c.args.conn c.args.batch.now h) (sym c.into_connection.ensures)
    (gave_events (λ conn. state g.S.Store conn) c.args.conn c.in-Ok.table.conn c.into_connection-conn.result c.in-Ok-open.table.conn c.keep-kept.new.self.conn c.args.batch.now
    _ _ _ _ c.into_connection-conn.ensures c.in-Ok.ensures.opens c.schema-schema.ensures.live c.in-Ok-open.ensures.opens c.in-Ok-open.ensures.crash c.keep-kept.ensures.crash)
