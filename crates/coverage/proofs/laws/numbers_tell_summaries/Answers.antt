use Rattle.coverage.proofs.SummaryTextLemmas.{one_by_numbers}
use Rattle.coverage.proofs.laws.numbers_tell_summaries.Goals as goal

pub returns : goal.returns
returns c = one_by_numbers
