use Rattle.std.proofs.Common.{IsTrue, rules}
use Rattle.sqlite.specs.Held.{state}
use Rattle.sqlite.specs.Values.{bound}
use Rattle.inbox_table.proofs.SameLemmas.{answered_same, answered_settled, refused_same, shown_same, survives_reading}
use Rattle.inbox_table.proofs.lookup.ask.Goals as goal

pub returns-in_err-query_all-clause-same : goal.returns-in_err-query_all-clause-same
returns-in_err-query_all-clause-same g c =
    let auto : IsTrue c.is_autocommit.result = search rules in
    refused_same c.args.text.now (bound c.args.params.now) (state g.S.Store c.args.conn.now) (state g.S.Store c.query_all.new.self) _ _ c.query_all.ensures.survives (c.is_autocommit.ensures.settled auto) c.in_err-query_all.ensures.err

pub returns-in_err-query_all-clause-survives : goal.returns-in_err-query_all-clause-survives
returns-in_err-query_all-clause-survives g c = survives_reading c.args.text.now (bound c.args.params.now) (state g.S.Store c.args.conn.now) (state g.S.Store c.query_all.new.self) c.requires c.query_all.ensures.survives

pub returns-clause-same : goal.returns-clause-same
returns-clause-same g c =
    let auto : IsTrue c.is_autocommit.result = search rules in
    answered_same c.args.text.now (bound c.args.params.now) (state g.S.Store c.args.conn.now) (state g.S.Store c.query_all.new.self) _ _ c.requires c.query_all.ensures.survives (c.is_autocommit.ensures.settled auto) c.in_ok-query_all.ensures.ok

pub returns-clause-open : goal.returns-clause-open
returns-clause-open g c clean = (shown_same c.args.text.now (bound c.args.params.now) (state g.S.Store c.args.conn.now) (state g.S.Store c.query_all.new.self) _ c.requires (c.in_ok-query_all.ensures.ok clean)).0.is_open

pub returns-clause-settled : goal.returns-clause-settled
returns-clause-settled g c clean =
    let auto : IsTrue c.is_autocommit.result = search rules in
    answered_settled c.args.text.now (bound c.args.params.now) (state g.S.Store c.args.conn.now) (state g.S.Store c.query_all.new.self) _ c.requires (c.is_autocommit.ensures.settled auto) (c.in_ok-query_all.ensures.ok clean)

pub returns-clause-survives : goal.returns-clause-survives
returns-clause-survives g c = survives_reading c.args.text.now (bound c.args.params.now) (state g.S.Store c.args.conn.now) (state g.S.Store c.query_all.new.self) c.requires c.query_all.ensures.survives
