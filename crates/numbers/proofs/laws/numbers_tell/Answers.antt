use Rattle.numbers.proofs.NumberLemmas.{numbers_tell}
use Rattle.numbers.proofs.laws.numbers_tell.Goals as goal

pub returns : goal.returns
returns c = numbers_tell
