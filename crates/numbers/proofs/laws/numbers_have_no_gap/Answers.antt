use Rattle.numbers.proofs.NumberLemmas.{no_gap}
use Rattle.numbers.proofs.laws.numbers_have_no_gap.Goals as goal

pub returns : goal.returns
returns c = no_gap
