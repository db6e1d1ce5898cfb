use Rattle.std.proofs.Common.{◌≡◌, refl, rules, arith, w64, FitsSigned}
use Rattle.std.proofs.lemmas.Int.{to_z-of_z}
use Rattle.sqlite.specs.Held.{state}
use Rattle.outbox.proofs.SameLemmas.{leaves, refused_same, answered_same, shown_stays_open}
use Rattle.outbox.proofs.LoadLemmas.{tells_status}
use Rattle.outbox.proofs.TextLemmas.{status_is, status_text}
use Rattle.outbox.proofs.statement.status_rows.Goals as goal

pub returns-in_err-status_asked-clause-same : goal.returns-in_err-status_asked-clause-same
returns-in_err-status_asked-clause-same g c =
    let auto : Rattle.std.proofs.Common.IsTrue c.is_autocommit.result = search rules in
    refused_same status_text _ (state g.S.Store c.args.conn.now) (state g.S.Store c.status_asked.new.conn) _ c.status_asked.ensures.survives (c.is_autocommit.ensures.settled auto) c.in_err-status_asked.ensures.err

pub returns-clause-same : goal.returns-clause-same
returns-clause-same g c = answered_same status_text _ (state g.S.Store c.args.conn.now) (state g.S.Store c.status_asked.new.conn) _ (λ l. (status_is l).1) c.status_asked.ensures.survives c.in_ok-status_asked.ensures.ok

pub returns-clause-tells : goal.returns-clause-tells
returns-clause-tells g c clean source base commands box =
    let fits : FitsSigned w64 c.signed.result = search rules in
    tells_status (state g.S.Store c.args.conn.now) (state g.S.Store c.status_asked.new.conn) box.layout commands c.args.order _ box.schema box.orders
    (rw (to_z-of_z w64 c.signed.result fits, c.signed.ensures) at (c.in_ok-status_asked.ensures.ok clean))

pub returns-clause-open : goal.returns-clause-open
returns-clause-open g c clean = shown_stays_open status_text _ (state g.S.Store c.args.conn.now) (state g.S.Store c.status_asked.new.conn) _ (c.in_ok-status_asked.ensures.ok clean)

pub returns-in_err-status_asked-clause-crash : goal.returns-in_err-status_asked-clause-crash
returns-in_err-status_asked-clause-crash g c = leaves status_text _ (state g.S.Store c.args.conn.now) (state g.S.Store c.status_asked.new.conn) (λ l. (status_is l).1) c.status_asked.ensures.survives

pub returns-clause-crash : goal.returns-clause-crash
returns-clause-crash g c = leaves status_text _ (state g.S.Store c.args.conn.now) (state g.S.Store c.status_asked.new.conn) (λ l. (status_is l).1) c.status_asked.ensures.survives
