use Rattle.numbers.proofs.PutLemmas.{numbered_members}
use Rattle.numbers.proofs.laws.numbered_members.Goals as goal

pub returns : goal.returns
returns c = numbered_members
