use Rattle.coverage.proofs.SizeLemmas.{size_of-count}
use Rattle.coverage.proofs.laws.size_counts_numbers.Goals as goal

pub returns : goal.returns
returns c = size_of-count
