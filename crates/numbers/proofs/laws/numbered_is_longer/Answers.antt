use Rattle.numbers.proofs.LengthLemmas.{longer}
use Rattle.numbers.proofs.laws.numbered_is_longer.Goals as goal

pub returns : goal.returns
returns c = longer
