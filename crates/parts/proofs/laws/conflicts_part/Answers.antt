use Rattle.parts.proofs.PartLemmas.{conflicts_part}
use Rattle.parts.proofs.laws.conflicts_part.Goals as goal

pub returns : goal.returns
returns c = conflicts_part
