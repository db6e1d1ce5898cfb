use Rattle.inbox.specs.KeyOrder.{key_cmp}
use Rattle.site.proofs.TakeLemmas.{arrival_stays}
use Rattle.site.proofs.laws.arrivals_stay.Goals as goal

pub returns : goal.returns
returns c A L n e is = arrival_stays key_cmp A L n e is
