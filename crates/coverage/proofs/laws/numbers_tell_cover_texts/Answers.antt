use Rattle.coverage.proofs.CompareLemmas.{one_cover_text, cover_text_along}
use Rattle.coverage.proofs.laws.numbers_tell_cover_texts.Goals as goal

pub returns-clause-one : goal.returns-clause-one
returns-clause-one c = one_cover_text

pub returns-clause-alike : goal.returns-clause-alike
returns-clause-alike c = cover_text_along
