use Rattle.std.proofs.Common.{◌≡◌, ◌≤◌, ◌+◌, ◌++◌, ◌∷◌, [], Some, slice_get, ap, ◌∙◌, sym, arith}
use Rattle.relay.specs.Route.{AreIn}
use Rattle.relay_fan.specs.Fan.{AreSent, rows_between}
use Rattle.relay_fan.proofs.LaneLemmas.{sent_none, between_none, between_more, copied_more}
use Rattle.relay_fan.proofs.fan.lane.copied.Goals as goal

pub loop-i-init : goal.loop-i-init
loop-i-init c = rw c.empty-page.ensures ((sent_none 0 c.args.rows.now c.args.from [], λ e h. absurd h), (sym (between_none 0 c.args.rows.now c.args.from), omega arith))

pub loop-i-preserved : goal.loop-i-preserved
loop-i-preserved c =
    let at : slice_get c.args.rows.now c.loop-i.i ≡ Some c.in_ok-copy.field-0 = c.at.ensures ∙ ap (λ e. Some e) (sym c.in_ok-copy.ensures) in
    let was = c.loop-i.invariant in
    rw c.in-Ok.ensures.ok (
      copied_more c.args.rows.now c.loop-i.page c.args.from c.loop-i.i c.in_ok-copy.field-0 at was.0,
      (between_more c.args.rows.now c.loop-i.page c.args.from c.loop-i.i c.in_ok-copy.field-0 was.1.1 at was.1.0, omega (arith, was.1.1)),
    )
