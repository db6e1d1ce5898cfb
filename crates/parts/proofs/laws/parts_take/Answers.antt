use Rattle.parts.proofs.TakeLemmas.{parts_take}
use Rattle.parts.proofs.laws.parts_take.Goals as goal

pub returns : goal.returns
returns c = parts_take c.text_tells_events.ensures
