use Rattle.array_texts.proofs.Joining.{join_texts}
use Rattle.array_texts.proofs.texts_join.Goals as goal

pub returns : goal.returns
returns c = join_texts
