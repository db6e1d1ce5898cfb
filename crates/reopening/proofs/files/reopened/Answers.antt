use Rattle.reopening.proofs.OpenLemmas.{opened_as, refused_as}
use Rattle.reopening.proofs.files.reopened.Goals as goal

pub returns-clause-opened : goal.returns-clause-opened
returns-clause-opened g c = opened_as c.args.conn c.crashed.result c.open_files.result c.crashed.ensures c.open_files.ensures.opened c.open_files.ensures.found

pub returns-clause-refused : goal.returns-clause-refused
returns-clause-refused g c = refused_as c.args.conn c.crashed.result c.open_files.result c.crashed.ensures c.open_files.ensures.cause
