use Rattle.std.proofs.Common.{◌≡◌, refl}
use Rattle.sqlite.specs.Held.{state}
use Rattle.relay_fan.proofs.ReadLemmas.{still_none}
use Rattle.relay_fan.proofs.fan.desk.fn.run_in_scope.scope.Goals as goal

pub returns : goal.returns
returns g c =
    let first = state g.S.Store c.captures.lent-service.now.conn in
    (refl, c.run.ensures.kept_service, c.run.ensures.service, c.run.ensures.ended, λ olds h. c.run.ensures.goes first.now olds (still_none first) h)
