use Rattle.event_json.proofs.OutcomeLemmas.{parts_join, wholes_read}
use Rattle.event_json.proofs.read.batch_parts_join.Goals as goal

pub returns-clause-join : goal.returns-clause-join
returns-clause-join c = parts_join

pub returns-clause-whole : goal.returns-clause-whole
returns-clause-whole c = wholes_read
