use Rattle.keeper.proofs.LawLemmas.{first_stay}
use Rattle.keeper.proofs.laws.first_arrivals_stay.Goals as goal

pub returns : goal.returns
returns c = first_stay
