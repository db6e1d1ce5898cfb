use Rattle.attributes.proofs.KeptLemmas.{data_again}
use Rattle.attributes.proofs.laws.data_reads_back.Goals as goal

pub returns : goal.returns
returns c = data_again
