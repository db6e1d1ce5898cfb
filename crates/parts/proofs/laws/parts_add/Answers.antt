use Rattle.parts.proofs.TallyLemmas.{parts_add}
use Rattle.parts.proofs.laws.parts_add.Goals as goal

pub returns : goal.returns
returns c = parts_add
