use Rattle.coverage.proofs.HoldsLemmas.{same_numbers-same}
use Rattle.coverage.proofs.laws.numbers_tell_intervals.Goals as goal

pub returns : goal.returns
returns c = same_numbers-same
