use Rattle.numbers.proofs.NumberedLemmas.{numbered_events}
use Rattle.numbers.proofs.laws.numbered_events.Goals as goal

pub returns : goal.returns
returns c = numbered_events
