use Rattle.database_layout.proofs.SchemaLemmas.{same_database}
use Rattle.database_layout.proofs.laws.trees_tell_tables.Goals as goal

pub returns : goal.returns
returns c = same_database
