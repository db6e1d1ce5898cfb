use Rattle.fault_lines.proofs.ReadingLemmas.{spelled, unsaid}
use Rattle.fault_lines.proofs.laws.events_are_quiet.Goals as goal

pub returns : goal.returns
returns c = λ name b text t. (spelled name b text t, unsaid c.readings_are_one.ensures.apart name b text t)
