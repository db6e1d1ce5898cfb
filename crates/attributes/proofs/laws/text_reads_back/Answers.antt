use Rattle.attributes.proofs.LawLemmas.{read-text}
use Rattle.attributes.proofs.laws.text_reads_back.Goals as goal

pub returns : goal.returns
returns c = read-text
