use Rattle.numbers.proofs.NumberLemmas.{batches_join}
use Rattle.numbers.proofs.laws.batches_join.Goals as goal

pub returns : goal.returns
returns c = batches_join
