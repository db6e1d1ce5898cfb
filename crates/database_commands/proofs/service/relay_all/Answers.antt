use Rattle.std.proofs.Common.{◌≡◌, false, rules}
use Rattle.sqlite.specs.Held.{state}
use Rattle.database_layout.specs.Layout.{has_name}
use Rattle.database_commands.proofs.RowLemmas.{no_service}
use Rattle.database_commands.proofs.service.relay_all.Goals as goal

pub returns-clause-shown : goal.returns-clause-shown
returns-clause-shown g c clean source base commands box =
    let none : has_name c.args.conn.schema ≡ false = search rules in
    no_service (state g.S.Store c.args.conn).now source base commands _ none box
