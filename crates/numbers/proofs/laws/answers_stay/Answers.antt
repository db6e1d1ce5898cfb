use Rattle.numbers.proofs.NumberLemmas.{answers_stay}
use Rattle.numbers.proofs.laws.answers_stay.Goals as goal

pub returns : goal.returns
returns c = answers_stay
