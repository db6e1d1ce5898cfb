use Rattle.event_json.proofs.WalkLemmas.{candidates-Array}
use Rattle.event_json.proofs.faulty.members.Goals as goal

pub returns-in-Array-clause-ok : goal.returns-in-Array-clause-ok
returns-in-Array-clause-ok c = rw c.in-Array.is (candidates-Array c.in-Array.items)
