use Rattle.attributes.proofs.RoundTripLemmas.{read-compact_text}
use Rattle.attributes.proofs.laws.exact_json_reads_back.Goals as goal

pub returns : goal.returns
returns c = read-compact_text
