use Rattle.parts.proofs.LatestLemmas.{latest_part}
use Rattle.parts.proofs.laws.latest_part.Goals as goal

pub returns : goal.returns
returns c = latest_part
