use Rattle.attributes.proofs.LineLemmas.{text_line}
use Rattle.attributes.proofs.laws.text_is_one_line.Goals as goal

pub returns : goal.returns
returns c = text_line
