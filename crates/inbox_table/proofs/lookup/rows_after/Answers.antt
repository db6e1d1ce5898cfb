use Rattle.std.proofs.Common.{w64}
use Rattle.std.proofs.lemmas.Int.{to_z-of_z}
use Rattle.sqlite.specs.Held.{state}
use Rattle.inbox_table.proofs.LookupLemmas.{plain_search}
use Rattle.inbox_table.proofs.TextLemmas.{page_filter, page_is, page_limit, page_text}
use Rattle.inbox_table.proofs.lookup.rows_after.Goals as goal

pub ask-requires : goal.ask-requires
ask-requires g c = plain_search page_text page_filter page_limit (state g.S.Store c.args.conn.now) page_is c.requires

pub returns-clause-shown : goal.returns-clause-shown
returns-clause-shown g c clean = rw (c.params-to_sql.ensures, c.params-to_sql-2.ensures, to_z-of_z w64 c.args.place c.ranges.place, to_z-of_z w64 c.args.count c.ranges.count) at (c.ask.ensures.shown clean)
