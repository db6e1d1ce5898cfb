use Rattle.keeper.proofs.GatherLemmas.{one_page}
use Rattle.keeper.proofs.keeper.Keeper.step.Goals as goal

pub returns-clause-asked : goal.returns-clause-asked
returns-clause-asked g c = one_page _ _ _ c.steps.ensures.asked
