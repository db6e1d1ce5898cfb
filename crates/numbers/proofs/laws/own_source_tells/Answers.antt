use Rattle.numbers.proofs.NumberLemmas.{own_source}
use Rattle.numbers.proofs.laws.own_source_tells.Goals as goal

pub returns : goal.returns
returns c = own_source
