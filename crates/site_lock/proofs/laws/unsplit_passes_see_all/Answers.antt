use Rattle.site_lock.proofs.LawLemmas.{sees_all}
use Rattle.site_lock.proofs.laws.unsplit_passes_see_all.Goals as goal

pub returns : goal.returns
returns c = sees_all
