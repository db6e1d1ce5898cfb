use Rattle.attributes.proofs.MembersLemmas.{InOrder-named}
use Rattle.attributes.proofs.canonical.begun.Goals as goal

pub returns-clause-ordered : goal.returns-clause-ordered
returns-clause-ordered c = InOrder-named c.args.members.now.entries c.len.ensures.ordered
