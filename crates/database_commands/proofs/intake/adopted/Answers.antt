use Rattle.std.proofs.Common.{subst}
use Rattle.std.proofs.lemmas.Result.{IfErr-weaker, IfOk-weaker}
use Rattle.sqlite.specs.Held.{state}
use Rattle.sqlite.proofs.StateLemmas.{survives_weaker}
use Rattle.inbox_table.specs.Rows.{IsInbox}
use Rattle.databases.proofs.HeldLemmas.{no_inbox, opened_events, opened_holds, opened_may_hold, opened_rows, opened_tells}
use Rattle.database_commands.proofs.intake.adopted.Goals as goal

pub returns-clause-held : goal.returns-clause-held
returns-clause-held g c =
    IfOk-weaker c.open.result _ _
    (λ t opens clean held holds. let it = opens clean in subst (IsInbox (state g.S.Store t.conn).now) (opened_events _ _ _ it.0 it.2 held holds) it.2.is)
    c.open.ensures.opens

pub returns-clause-back : goal.returns-clause-back
returns-clause-back g c = IfErr-weaker c.open.result _ _ (λ n rejects. rejects.same) c.open.ensures.rejects

pub returns-clause-beside : goal.returns-clause-beside
returns-clause-beside g c = IfOk-weaker c.open.result _ _ (λ t opens clean. let it = opens clean in opened_rows _ _ _ it.0 it.2) c.open.ensures.opens

pub returns-clause-upgraded : goal.returns-clause-upgraded
returns-clause-upgraded g c = IfOk-weaker c.open.result _ _ (λ t opens clean. let it = opens clean in opened_tells _ _ _ it.0 it.2) c.open.ensures.opens

pub returns-clause-found : goal.returns-clause-found
returns-clause-found g c = IfOk-weaker c.open.result _ _ (λ t opens clean. let it = opens clean in (it.0, opened_holds _ _ _ it.0 it.2)) c.open.ensures.opens

pub returns-clause-stays_open : goal.returns-clause-stays_open
returns-clause-stays_open g c = IfOk-weaker c.open.result _ _ (λ t opens clean. (opens clean).2.stays_open) c.open.ensures.opens

pub returns-clause-crash : goal.returns-clause-crash
returns-clause-crash g c =
    IfOk-weaker c.open.result _ _ (λ t crash. survives_weaker _ _ _ _ (λ clean trees may. opened_may_hold _ trees may) crash) c.open.ensures.crash

pub returns-clause-crash_refused : goal.returns-clause-crash_refused
returns-clause-crash_refused g c =
    IfErr-weaker c.open.result _ _ (λ n crash. survives_weaker _ _ _ _ (λ clean trees may. opened_may_hold _ trees may) crash) c.open.ensures.crash_refused

pub returns-clause-foreign : goal.returns-clause-foreign
returns-clause-foreign g c = IfErr-weaker c.open.result _ _ (λ n rejects. no_inbox _ _ n.fault rejects) c.open.ensures.rejects
