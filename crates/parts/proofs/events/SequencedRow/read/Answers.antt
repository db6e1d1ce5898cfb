use Rattle.std.proofs.lemmas.Result.{IfOk-weaker}
use Rattle.parts.proofs.events.SequencedRow.read.Goals as goal

pub returns : goal.returns
returns c = IfOk-weaker c.read_event.result _ _ (λ o reads row own. reads row own.0.1.0 own.0.0 own.0.1.1 own.1) c.read_event.ensures
