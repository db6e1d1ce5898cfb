use Rattle.coverage.proofs.SummaryTextLemmas.{same_summary_texts}
use Rattle.coverage.proofs.laws.texts_tell_summaries.Goals as goal

pub returns : goal.returns
returns c = same_summary_texts
