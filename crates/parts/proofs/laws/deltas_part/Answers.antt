use Rattle.parts.proofs.DigestLemmas.{deltas_part}
use Rattle.parts.proofs.laws.deltas_part.Goals as goal

pub returns : goal.returns
returns c = deltas_part
