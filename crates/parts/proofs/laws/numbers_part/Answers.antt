use Rattle.parts.proofs.RowLemmas.{numbers_part}
use Rattle.parts.proofs.laws.numbers_part.Goals as goal

pub returns : goal.returns
returns c = numbers_part
