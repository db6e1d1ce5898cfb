use Rattle.coverage.proofs.ToldLemmas.{delta_is_lacking, wanted_is_delta}
use Rattle.coverage.proofs.laws.summaries_stand_for_sets.Goals as goal

pub returns-clause-lacking : goal.returns-clause-lacking
returns-clause-lacking c = delta_is_lacking

pub returns-clause-wanted : goal.returns-clause-wanted
returns-clause-wanted c = wanted_is_delta
