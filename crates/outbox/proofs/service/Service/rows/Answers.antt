use Rattle.std.proofs.Common.{◌≡◌, ◌+◌, ◌-◌, IsTrue, arith, length, subst}
use Rattle.sqlite.specs.Held.{state}
use Rattle.sqlite.specs.State.{HasCleanDisk}
use Rattle.outbox.specs.Shown.{CountsRows, Shown}
use Rattle.outbox.proofs.ServiceLemmas.{same_count}
use Rattle.outbox.proofs.service.Service.rows.Goals as goal

pub returns-clause-rows : goal.returns-clause-rows
returns-clause-rows g c =
    let it = c.self.inside in
    subst (λ (v : Shown _). HasCleanDisk (state g.S.Store v.conn) → IsTrue (state g.S.Store v.conn).is_open → CountsRows (state g.S.Store v.conn).now v.source v.base (it.last - it.base)) c.self.view_is
    (λ clean still commands box.
    let was = c.self.invariant.0.stands clean still in
    let rows : it.last - it.base ≡ length commands = omega (arith, was.count, same_count (state g.S.Store it.conn).now it.source it.base was.commands commands was.table box) in
    rows)
