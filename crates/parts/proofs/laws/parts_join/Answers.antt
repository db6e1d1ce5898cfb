use Rattle.parts.proofs.JoinLemmas.{parts_join}
use Rattle.parts.proofs.laws.parts_join.Goals as goal

pub returns : goal.returns
returns c = parts_join
