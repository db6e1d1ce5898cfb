use Rattle.sqlite.specs.Held.{state}
use Rattle.database_layout.proofs.MakingLemmas.{inbox_dropped}
use Rattle.database_layout.proofs.creation.drop_inbox.Goals as goal

pub returns-clause-dropped : goal.returns-clause-dropped
returns-clause-dropped g c clean inside = inbox_dropped (state g.S.Store c.args.tx.now.conn.now) (state g.S.Store c.drop.new.tx.conn.now) _ (c.in_ok-drop.ensures.runs clean inside)
