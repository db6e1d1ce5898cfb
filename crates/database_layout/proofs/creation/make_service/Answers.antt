use Rattle.std.proofs.Common.{arith}
use Rattle.sqlite.specs.State.{HasCleanDisk}
use Rattle.sqlite.specs.Held.{state}
use Rattle.database_layout.proofs.MakingLemmas.{service_made}
use Rattle.database_layout.proofs.creation.make_service.Goals as goal

pub returns-clause-made : goal.returns-clause-made
returns-clause-made g c clean inside =
    let a = state g.S.Store c.args.tx.now.conn.now in
    let b = state g.S.Store c.create_service.new.tx.conn.now in
    let m = state g.S.Store c.create_orders.new.tx.conn.now in
    let d = state g.S.Store c.create_outbox.new.tx.conn.now in
    let clean_m : HasCleanDisk m = omega (arith, c.create_outbox.ensures.survives.clean, clean) in
    let clean_b : HasCleanDisk b = omega (arith, c.create_orders.ensures.survives.clean, clean_m) in
    let one = c.in_ok-create_service.ensures.runs clean_b inside in
    let two = c.in_ok-create_orders.ensures.runs clean_m one.1.mode in
    let three = c.in_ok-create_outbox.ensures.runs clean two.1.mode in
    service_made a b m d _ _ _ one two three
