use Rattle.parts.proofs.DigestLemmas.{summaries_join}
use Rattle.parts.proofs.laws.summaries_join.Goals as goal

pub returns : goal.returns
returns c = summaries_join c.numbers_tell_summaries.ensures c.sets_have_one_summary.ensures
