use Rattle.std.proofs.Common.{rules, w64, FitsSigned, IsTrue}
use Rattle.std.proofs.lemmas.Int.{to_z-of_z}
use Rattle.sqlite.specs.Held.{state}
use Rattle.outbox.proofs.SameLemmas.{committed, leaves, refused_same, answered_same, shown_open, shown_stays_open}
use Rattle.outbox.proofs.LoadLemmas.{pages}
use Rattle.outbox.proofs.TextLemmas.{page_is, page_text}
use Rattle.outbox.proofs.statement.page.Goals as goal

pub returns-in_err-page_asked-clause-same : goal.returns-in_err-page_asked-clause-same
returns-in_err-page_asked-clause-same g c =
    let auto : IsTrue c.is_autocommit.result = search rules in
    refused_same page_text _ (state g.S.Store c.args.conn.now) (state g.S.Store c.page_asked.new.conn) _ c.page_asked.ensures.survives (c.is_autocommit.ensures.settled auto) c.in_err-page_asked.ensures.err

pub returns-clause-same : goal.returns-clause-same
returns-clause-same g c = answered_same page_text _ (state g.S.Store c.args.conn.now) (state g.S.Store c.page_asked.new.conn) _ (λ l. (page_is l).1) c.page_asked.ensures.survives c.in_ok-page_asked.ensures.ok

pub returns-clause-rows : goal.returns-clause-rows
returns-clause-rows g c clean source base commands box =
    let fits : FitsSigned w64 c.signed.result = search rules in
    let fits2 : FitsSigned w64 c.signed-2.result = search rules in
    pages (state g.S.Store c.args.conn.now) (state g.S.Store c.page_asked.new.conn) box.layout base commands c.args.after c.args.limit _ box.schema box.outbox
    (rw (to_z-of_z w64 c.signed.result fits, c.signed.ensures, to_z-of_z w64 c.signed-2.result fits2, c.signed-2.ensures) at (c.in_ok-page_asked.ensures.ok clean))

pub returns-clause-open : goal.returns-clause-open
returns-clause-open g c clean =
    let old = state g.S.Store c.args.conn.now in
    let last = state g.S.Store c.page_asked.new.conn in
    let shows = c.in_ok-page_asked.ensures.ok clean in
    (shown_open page_text _ old last _ shows, shown_stays_open page_text _ old last _ shows)

pub returns-clause-settled : goal.returns-clause-settled
returns-clause-settled g c clean =
    let auto : IsTrue c.is_autocommit.result = search rules in
    committed page_text _ (state g.S.Store c.args.conn.now) (state g.S.Store c.page_asked.new.conn) _ (λ l. (page_is l).1) (c.is_autocommit.ensures.settled auto) (c.in_ok-page_asked.ensures.ok clean)

pub returns-in_err-page_asked-clause-crash : goal.returns-in_err-page_asked-clause-crash
returns-in_err-page_asked-clause-crash g c = leaves page_text _ (state g.S.Store c.args.conn.now) (state g.S.Store c.page_asked.new.conn) (λ l. (page_is l).1) c.page_asked.ensures.survives

pub returns-clause-crash : goal.returns-clause-crash
returns-clause-crash g c = leaves page_text _ (state g.S.Store c.args.conn.now) (state g.S.Store c.page_asked.new.conn) (λ l. (page_is l).1) c.page_asked.ensures.survives
