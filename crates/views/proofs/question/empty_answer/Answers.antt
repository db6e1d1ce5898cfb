use Rattle.std.proofs.Common.{[], sym, subst}
use Rattle.views.specs.Number.{AreGaps}
use Rattle.views.proofs.SilentLemmas.{gaps_none}
use Rattle.views.proofs.question.empty_answer.Goals as goal

pub returns-in-Gaps-clause-answer : goal.returns-in-Gaps-clause-answer
returns-in-Gaps-clause-answer c = subst (AreGaps []) (sym c.empty-in-Gaps.ensures) gaps_none
