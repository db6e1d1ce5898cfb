use Rattle.numbers.proofs.NumberedLemmas.{numbered_parts}
use Rattle.numbers.proofs.laws.numbered_parts.Goals as goal

pub returns : goal.returns
returns c = numbered_parts
