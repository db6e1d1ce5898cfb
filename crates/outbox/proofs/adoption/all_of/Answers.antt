use Rattle.std.proofs.Common.{IsTrue, rules}
use Rattle.sqlite.specs.Held.{state}
use Rattle.outbox.proofs.SameLemmas.{committed, leaves, refused_same, answered_same, shown_open, shown_stays_open}
use Rattle.outbox.proofs.adoption.all_of.Goals as goal

pub returns-in_err-query_all-clause-same : goal.returns-in_err-query_all-clause-same
returns-in_err-query_all-clause-same g c =
    let auto : IsTrue c.is_autocommit.result = search rules in
    refused_same c.args.sql.now _ (state g.S.Store c.args.conn.now) (state g.S.Store c.query_all.new.self) _ c.query_all.ensures.survives (c.is_autocommit.ensures.settled auto) c.in_err-query_all.ensures.err

pub returns-clause-same : goal.returns-clause-same
returns-clause-same g c = answered_same c.args.sql.now _ (state g.S.Store c.args.conn.now) (state g.S.Store c.query_all.new.self) _ c.requires.plain c.query_all.ensures.survives c.in_ok-query_all.ensures.ok

pub returns-clause-open : goal.returns-clause-open
returns-clause-open g c clean =
    let old = state g.S.Store c.args.conn.now in
    let last = state g.S.Store c.query_all.new.self in
    let shows = c.in_ok-query_all.ensures.ok clean in
    (shown_open c.args.sql.now _ old last _ shows, shown_stays_open c.args.sql.now _ old last _ shows)

pub returns-in_err-query_all-clause-crash : goal.returns-in_err-query_all-clause-crash
returns-in_err-query_all-clause-crash g c = leaves c.args.sql.now _ (state g.S.Store c.args.conn.now) (state g.S.Store c.query_all.new.self) c.requires.plain c.query_all.ensures.survives

pub returns-clause-crash : goal.returns-clause-crash
returns-clause-crash g c = leaves c.args.sql.now _ (state g.S.Store c.args.conn.now) (state g.S.Store c.query_all.new.self) c.requires.plain c.query_all.ensures.survives

pub returns-clause-settled : goal.returns-clause-settled
returns-clause-settled g c clean =
    let auto : IsTrue c.is_autocommit.result = search rules in
    committed c.args.sql.now _ (state g.S.Store c.args.conn.now) (state g.S.Store c.query_all.new.self) _ c.requires.plain (c.is_autocommit.ensures.settled auto) (c.in_ok-query_all.ensures.ok clean)
