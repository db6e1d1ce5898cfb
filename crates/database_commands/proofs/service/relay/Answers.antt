use Rattle.std.proofs.Common.{◌≡◌, Bool, IsTrue, arith, false, inl, subst, sym, true}
use Rattle.std.proofs.lemmas.Result.{IfOk-weaker}
use Rattle.sqlite.specs.Held.{state}
use Rattle.sqlite.specs.State.{HasCleanDisk}
use Rattle.outbox.specs.Call.{IsSettled}
use Rattle.databases.specs.Held.{KeepsEvents, KeepsService}
use Rattle.databases.specs.Service.{LeavesOrFounds}
use Rattle.databases.proofs.BesideLemmas.{events_same}
use Rattle.databases.proofs.HeldLemmas.{on_okay}
use Rattle.database_commands.proofs.DescribedLemmas.{untold}
use Rattle.database_commands.proofs.ServedLemmas.{beside_read, kept_all, kept_read, made_or_founds, read_or_founds, shown_rows}
use Rattle.database_commands.proofs.service.relay.Goals as goal

pub returns-in-Ok-clause-shown : goal.returns-in-Ok-clause-shown
returns-in-Ok-clause-shown g c clean =
    let mid = c.in-Ok.service in
    let last = c.rows_line-outcome.new.service in
    let late : HasCleanDisk (state g.S.Store last.conn) = subst (λ h. HasCleanDisk (state g.S.Store h)) c.into_connection-conn.ensures clean in
    let early : HasCleanDisk (state g.S.Store mid.conn) = omega (arith, c.rows_line-outcome.ensures.same.clean, late) in
    IfOk-weaker c.rows_line-outcome.result _ _
    (λ text rows. shown_rows c.args.source.now (state g.S.Store c.args.conn).now (state g.S.Store mid.conn).now mid.source mid.base (c.in-Ok.ensures.served early) c.args.after text rows)
    (c.rows_line-outcome.ensures.rows late)

pub returns-in-Ok-clause-kept : goal.returns-in-Ok-clause-kept
returns-in-Ok-clause-kept g c clean still =
    let mid = c.in-Ok.service in
    let last = c.rows_line-outcome.new.service in
    let late : HasCleanDisk (state g.S.Store last.conn) = subst (λ h. HasCleanDisk (state g.S.Store h)) c.into_connection-conn.ensures clean in
    let open_late : IsTrue (state g.S.Store last.conn).is_open = subst (λ h. IsTrue (state g.S.Store h).is_open) c.into_connection-conn.ensures still in
    let early : HasCleanDisk (state g.S.Store mid.conn) = omega (arith, c.rows_line-outcome.ensures.same.clean, late) in
    subst (λ h. KeepsService c.args.source.now (state g.S.Store c.args.conn).now (state g.S.Store h).now) (sym c.into_connection-conn.ensures)
    (kept_read c.args.source.now (state g.S.Store c.args.conn).now (state g.S.Store mid.conn) (state g.S.Store last.conn) mid.source mid.base (c.in-Ok.ensures.served early) c.rows_line-outcome.ensures.same late open_late)

pub returns-in-Err-clause-kept : goal.returns-in-Err-clause-kept
returns-in-Err-clause-kept g c clean still = kept_all c.args.source.now (state g.S.Store c.args.conn).now (state g.S.Store c.in-Err.refused.conn).now (c.in-Err.ensures.back clean still)

pub returns-in-Ok-clause-beside : goal.returns-in-Ok-clause-beside
returns-in-Ok-clause-beside g c clean still =
    let mid = c.in-Ok.service in
    let last = c.rows_line-outcome.new.service in
    let late : HasCleanDisk (state g.S.Store last.conn) = subst (λ h. HasCleanDisk (state g.S.Store h)) c.into_connection-conn.ensures clean in
    let open_late : IsTrue (state g.S.Store last.conn).is_open = subst (λ h. IsTrue (state g.S.Store h).is_open) c.into_connection-conn.ensures still in
    let early : HasCleanDisk (state g.S.Store mid.conn) = omega (arith, c.rows_line-outcome.ensures.same.clean, late) in
    subst (λ h. KeepsEvents (state g.S.Store c.args.conn).now (state g.S.Store h).now) (sym c.into_connection-conn.ensures)
    (beside_read (state g.S.Store c.args.conn).now (state g.S.Store mid.conn) (state g.S.Store last.conn) mid.source mid.base mid.last (c.in-Ok.ensures.beside early) (c.in-Ok.ensures.stands early) c.rows_line-outcome.ensures.same late open_late)

pub returns-in-Err-clause-beside : goal.returns-in-Err-clause-beside
returns-in-Err-clause-beside g c clean still = events_same _ _ (c.in-Err.ensures.back clean still)

pub returns-in-Ok-clause-stays_open : goal.returns-in-Ok-clause-stays_open
returns-in-Ok-clause-stays_open g c clean =
    let late : HasCleanDisk (state g.S.Store c.rows_line-outcome.new.service.conn) = subst (λ h. HasCleanDisk (state g.S.Store h)) c.into_connection-conn.ensures clean in
    on_okay c.rows_line-outcome.result _ _ (λ still. subst (λ h. IsTrue (state g.S.Store h).is_open) (sym c.into_connection-conn.ensures) still) (c.rows_line-outcome.ensures.stays_open late)

pub returns-in-Ok-clause-settled : goal.returns-in-Ok-clause-settled
returns-in-Ok-clause-settled g c clean =
    let late : HasCleanDisk (state g.S.Store c.rows_line-outcome.new.service.conn) = subst (λ h. HasCleanDisk (state g.S.Store h)) c.into_connection-conn.ensures clean in
    on_okay c.rows_line-outcome.result _ _ (λ leaves. subst (λ h. IsSettled (state g.S.Store h)) (sym c.into_connection-conn.ensures) leaves) (c.rows_line-outcome.ensures.settled late)

pub returns-in-Ok-clause-clean : goal.returns-in-Ok-clause-clean
returns-in-Ok-clause-clean g c clean =
    let late : HasCleanDisk (state g.S.Store c.rows_line-outcome.new.service.conn) = subst (λ h. HasCleanDisk (state g.S.Store h)) c.into_connection-conn.ensures clean in
    let early : HasCleanDisk (state g.S.Store c.in-Ok.service.conn) = omega (arith, c.rows_line-outcome.ensures.same.clean, late) in
    c.in-Ok.ensures.clean early

pub returns-in-Ok-clause-crash : goal.returns-in-Ok-clause-crash
returns-in-Ok-clause-crash g c =
    let old = state g.S.Store c.args.conn in
    let mid = c.in-Ok.service in
    let last = c.rows_line-outcome.new.service in
    subst (λ h. LeavesOrFounds c.args.source.now 0 old (state g.S.Store h)) (sym c.into_connection-conn.ensures)
    (read_or_founds c.args.source.now old (state g.S.Store mid.conn) (state g.S.Store last.conn) mid.source mid.base mid.last c.in-Ok.ensures.crash c.in-Ok.ensures.stands c.rows_line-outcome.ensures.same c.rows_line-outcome.ensures.crash)

pub returns-in-Err-clause-crash : goal.returns-in-Err-clause-crash
returns-in-Err-clause-crash g c = made_or_founds c.args.source.now (state g.S.Store c.args.conn) (state g.S.Store c.in-Err.refused.conn) c.in-Err.ensures.crash_refused

-- no source is named
pub returns-in-Err-clause-fault : goal.returns-in-Err-clause-fault
returns-in-Err-clause-fault g c = inl (untold c.in-Err.refused.fault c.in-Err.ensures.fault (λ is. let bad : ◌≡◌ {A = Bool} false true = (c.in-Err.ensures.another is).0 in cc))
