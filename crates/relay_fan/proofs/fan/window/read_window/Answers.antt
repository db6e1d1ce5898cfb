use Rattle.std.proofs.Common.{◌∙◌, arith}
use Rattle.sqlite.specs.Held.{state}
use Rattle.outbox.specs.Row.{rows_of}
use Rattle.relay.proofs.ReadLemmas.{same_then}
use Rattle.relay_fan.proofs.ReadLemmas.{reads_on}
use Rattle.relay_fan.proofs.WindowLemmas.{first_rows}
use Rattle.relay_fan.proofs.fan.window.read_window.Goals as goal

pub loop-page-init : goal.loop-page-init
loop-page-init g c = (c.rows_after.ensures.kept, (c.rows_after.ensures.same, c.in-Ok.ensures.open, λ clean commands is. first_rows c.args.service.now.base (rows_of c.args.service.now.source c.args.service.now.base commands) c.args.start 99 c.in-Ok.rows (c.in-Ok.ensures.rows clean commands is)))

pub add_page-requires : goal.add_page-requires
add_page-requires g c = omega (arith, c.requires, c.loop-page.invariant.0.1)

pub loop-page-preserved : goal.loop-page-preserved
loop-page-preserved g c =
    let was = c.loop-page.invariant.0 in let is = c.add_page.ensures.kept_service in
    ((is.0 ∙ was.0, is.1 ∙ was.1, is.2 ∙ was.2), reads_on c.args.service.now.source c.loop-page.service.source c.args.service.now.base c.loop-page.service.base c.args.start (state g.S.Store c.args.service.now.conn) (state g.S.Store c.loop-page.service.conn) (state g.S.Store c.add_page.new.service.conn) c.loop-page.rows c.add_page.new.rows was.0 was.1 c.loop-page.invariant.1 c.add_page.ensures.service c.in-Ok-true.ensures.open c.in-Ok-true.ensures.rows)

pub returns-in-Ok-false-clause-rows : goal.returns-in-Ok-false-clause-rows
returns-in-Ok-false-clause-rows g c =
    let was = c.loop-page.invariant.0 in
    (reads_on c.args.service.now.source c.loop-page.service.source c.args.service.now.base c.loop-page.service.base c.args.start (state g.S.Store c.args.service.now.conn) (state g.S.Store c.loop-page.service.conn) (state g.S.Store c.add_page.new.service.conn) c.loop-page.rows c.add_page.new.rows was.0 was.1 c.loop-page.invariant.1 c.add_page.ensures.service c.in-Ok-false.ensures.open c.in-Ok-false.ensures.rows).2

pub returns-in-Err-add_page-clause-service : goal.returns-in-Err-add_page-clause-service
returns-in-Err-add_page-clause-service g c = same_then (state g.S.Store c.args.service.now.conn) (state g.S.Store c.loop-page.service.conn) (state g.S.Store c.add_page.new.service.conn) c.loop-page.invariant.1.0 c.add_page.ensures.service

pub returns-clause-rows : goal.returns-clause-rows
returns-clause-rows g c = c.loop-page.invariant.1.2
