use Rattle.numbers.proofs.EventLemmas.{numbered_fits}
use Rattle.numbers.proofs.laws.numbered_fits.Goals as goal

pub returns : goal.returns
returns c = numbered_fits
