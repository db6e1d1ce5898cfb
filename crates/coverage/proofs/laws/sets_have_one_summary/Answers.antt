use Rattle.coverage.proofs.CompareLemmas.{same_summary}
use Rattle.coverage.proofs.FormLemmas.{one_summary}
use Rattle.coverage.proofs.laws.sets_have_one_summary.Goals as goal

pub returns : goal.returns
returns c = one_summary same_summary
