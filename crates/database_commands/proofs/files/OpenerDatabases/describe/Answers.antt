use Rattle.databases.specs.declared.trouble.Trouble.TheVariants as trouble
use Rattle.database_commands.proofs.NamedLemmas.{not_begun}
use Rattle.database_commands.proofs.files.OpenerDatabases.describe.Goals as goal

pub returns-in-Ok-answer_of-clause-none : goal.returns-in-Ok-answer_of-clause-none
returns-in-Ok-answer_of-clause-none c no_file =
    absurd (not_begun c.found.result c.performed.result trouble.NoFile c.in-Ok.ended c.performed.ensures.refused (c.found.ensures.none no_file) c.in-Ok.is)

pub returns-in-Err-answer_of-clause-none : goal.returns-in-Err-answer_of-clause-none
returns-in-Err-answer_of-clause-none c no_file =
    absurd (not_begun c.found.result c.performed.result trouble.NoFile c.in-Ok.ended c.performed.ensures.refused (c.found.ensures.none no_file) c.in-Ok.is)
