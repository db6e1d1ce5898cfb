use Rattle.std.proofs.Common.{IsTrue, arith, subst, sym}
use Rattle.std.proofs.lemmas.Result.{IfOk-weaker}
use Rattle.sqlite.specs.Held.{state}
use Rattle.sqlite.specs.State.{HasCleanDisk}
use Rattle.outbox.specs.Call.{IsSettled, Leaves}
use Rattle.databases.specs.Held.{IsUntold}
use Rattle.databases.proofs.HeldLemmas.{on_okay, outbox_untold}
use Rattle.database_commands.proofs.RowLemmas.{read_leaves, read_settled, shown_all}
use Rattle.database_commands.proofs.service.found_rows.Goals as goal

pub returns-in-Ok-clause-shown : goal.returns-in-Ok-clause-shown
returns-in-Ok-clause-shown g c clean =
    let mid = c.in-Ok.service in
    let last = c.row_lines-outcome.new.service in
    let late : HasCleanDisk (state g.S.Store last.conn) = subst (λ h. HasCleanDisk (state g.S.Store h)) c.into_connection-conn.ensures clean in
    let early : HasCleanDisk (state g.S.Store mid.conn) = omega (arith, c.row_lines-outcome.ensures.same.clean, late) in
    let of = c.in-Ok.ensures in
    IfOk-weaker c.row_lines-outcome.result _ _
    (λ text rows. shown_all (state g.S.Store c.args.conn).now (state g.S.Store mid.conn).now mid.source mid.base c.args.after text rows.0 (of.exact early) (of.left.same early (of.open early)) rows.1 (rows.3 late))
    c.row_lines-outcome.ensures.rows

pub returns-in-Ok-clause-left : goal.returns-in-Ok-clause-left
returns-in-Ok-clause-left g c =
    let mid = c.in-Ok.service in
    let last = c.row_lines-outcome.new.service in
    subst (λ h. Leaves (state g.S.Store c.args.conn) (state g.S.Store h)) (sym c.into_connection-conn.ensures)
    (read_leaves (state g.S.Store c.args.conn) (state g.S.Store mid.conn) (state g.S.Store last.conn) mid.source mid.base mid.last c.in-Ok.ensures.left c.in-Ok.ensures.open c.in-Ok.ensures.stands
    c.row_lines-outcome.ensures.same c.row_lines-outcome.ensures.crash)

pub returns-in-Ok-clause-line : goal.returns-in-Ok-clause-line
returns-in-Ok-clause-line g c = IfOk-weaker c.row_lines-outcome.result _ _ (λ text rows. (rows.0, rows.1, rows.2)) c.row_lines-outcome.ensures.rows

pub returns-in-Ok-clause-stays_open : goal.returns-in-Ok-clause-stays_open
returns-in-Ok-clause-stays_open g c clean =
    let late : HasCleanDisk (state g.S.Store c.row_lines-outcome.new.service.conn) = subst (λ h. HasCleanDisk (state g.S.Store h)) c.into_connection-conn.ensures clean in
    on_okay c.row_lines-outcome.result _ _ (λ still. subst (λ h. IsTrue (state g.S.Store h).is_open) (sym c.into_connection-conn.ensures) still) (c.row_lines-outcome.ensures.stays_open late)

pub returns-in-Ok-clause-settled : goal.returns-in-Ok-clause-settled
returns-in-Ok-clause-settled g c clean =
    let mid = c.in-Ok.service in
    let last = c.row_lines-outcome.new.service in
    let late : HasCleanDisk (state g.S.Store last.conn) = subst (λ h. HasCleanDisk (state g.S.Store h)) c.into_connection-conn.ensures clean in
    let settled : IsSettled (state g.S.Store c.into_connection-conn.result) =
    subst (λ h. IsSettled (state g.S.Store h)) (sym c.into_connection-conn.ensures)
    (read_settled (state g.S.Store mid.conn) (state g.S.Store last.conn) mid.source mid.base mid.last late c.in-Ok.ensures.open c.in-Ok.ensures.settled c.in-Ok.ensures.stands
    c.row_lines-outcome.ensures.same c.row_lines-outcome.ensures.crash) in
    on_okay c.row_lines-outcome.result _ _ (λ _. settled) (c.row_lines-outcome.ensures.stays_open late)

pub returns-in-Err-clause-fault : goal.returns-in-Err-clause-fault
returns-in-Err-clause-fault g c = subst IsUntold (sym c.of_outbox.ensures) (outbox_untold c.in-Err.refused.fault c.in-Err.ensures.fault)
