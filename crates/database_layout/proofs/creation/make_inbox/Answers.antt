use Rattle.sqlite.specs.Held.{state}
use Rattle.database_layout.proofs.MakingLemmas.{inbox_made, inbox_made_beside}
use Rattle.database_layout.proofs.creation.make_inbox.Goals as goal

pub returns-clause-made : goal.returns-clause-made
returns-clause-made g c clean inside = inbox_made (state g.S.Store c.args.tx.now.conn.now) (state g.S.Store c.execute.new.self.conn.now) _ (c.in_ok-execute.ensures.runs clean inside)

pub returns-clause-beside : goal.returns-clause-beside
returns-clause-beside g c clean inside = inbox_made_beside (state g.S.Store c.args.tx.now.conn.now) (state g.S.Store c.execute.new.self.conn.now) _ (c.in_ok-execute.ensures.runs clean inside)
