use Rattle.site.proofs.KeyLemmas.{conflict_found}
use Rattle.site.proofs.laws.conflicts_are_found.Goals as goal

pub returns : goal.returns
returns c = conflict_found
