use Rattle.parts.proofs.PartLemmas.{shown_part}
use Rattle.parts.proofs.laws.shown_part.Goals as goal

pub returns : goal.returns
returns c = shown_part
