use Rattle.parts.proofs.MergeLemmas.{parts_merge}
use Rattle.parts.proofs.laws.parts_merge.Goals as goal

pub returns : goal.returns
returns c = parts_merge c.text_tells_events.ensures
