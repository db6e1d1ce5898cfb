use Rattle.serde_json.specs.View.{view}
use Rattle.event_json.proofs.FaultLemmas.{has_bytes}
use Rattle.event_json.proofs.read.parse.Goals as goal

pub returns-in-Ok-clause-some : goal.returns-in-Ok-clause-some
returns-in-Ok-clause-some c = has_bytes c.args.bytes.now (view c.in-Ok.value) c.in-Ok.ensures.ok
