use Rattle.database_commands.proofs.NamedLemmas.{refused_on}
use Rattle.database_commands.proofs.named.perform_there.Goals as goal

pub returns-clause-refused : goal.returns-clause-refused
returns-clause-refused g c = refused_on c.open_there.result c.performed.result _ c.performed.ensures.refused c.open_there.ensures.refused
