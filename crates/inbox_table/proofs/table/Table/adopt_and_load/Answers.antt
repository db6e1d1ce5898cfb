use Rattle.std.proofs.Common.{refl, subst, sym}
use Rattle.sqlite.specs.Held.{state}
use Rattle.inbox_table.specs.Calls.{Adopts}
use Rattle.inbox_table.proofs.table.Table.adopt_and_load.Goals as goal

pub returns-in-Ok-clause-adopts : goal.returns-in-Ok-clause-adopts
returns-in-Ok-clause-adopts g c clean =
    let it = c.in-Ok.ensures.adopts clean in
    subst (Adopts (state g.S.Store c.args.conn) (state g.S.Store c.found_in.new.conn)) (sym (it.kept refl)) it.adopts
