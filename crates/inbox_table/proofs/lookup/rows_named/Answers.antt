use Rattle.std.proofs.lemmas.Result.{IfOk-weaker}
use Rattle.sqlite.specs.Held.{state}
use Rattle.inbox_table.proofs.LookupLemmas.{finds_named, plain_search}
use Rattle.inbox_table.proofs.TextLemmas.{named_filter, named_is, named_text, no_limit}
use Rattle.inbox_table.proofs.lookup.rows_named.Goals as goal

pub ask-requires : goal.ask-requires
ask-requires g c = plain_search named_text named_filter no_limit (state g.S.Store c.args.conn.now) named_is c.requires

pub returns-clause-rows : goal.returns-clause-rows
returns-clause-rows g c clean =
    let old = state g.S.Store c.args.conn.now in
    let new = state g.S.Store c.ask.new.conn in
    IfOk-weaker c.ask.result _ _ (λ rows shows l box. finds_named c.args.source.now c.args.id.now old new l rows.items box shows) (rw (c.params-to_sql.ensures, c.params-to_sql-2.ensures) at (c.ask.ensures.shown clean))
