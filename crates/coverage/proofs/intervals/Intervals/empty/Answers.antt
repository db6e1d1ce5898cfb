use Rattle.std.proofs.Common.{ap, ◌∙◌}
use Rattle.coverage.specs.Intervals.{holds, rises_from}
use Rattle.coverage.proofs.HoldsLemmas.{holds-nil, rises_from-nil}
use Rattle.coverage.proofs.intervals.Intervals.empty.Goals as goal

pub invariant_of-result : goal.invariant_of-result
invariant_of-result c = ap (rises_from 1) c.new.ensures.empty ∙ rises_from-nil 1

pub returns-clause-members : goal.returns-clause-members
returns-clause-members c = λ n. ap (λ l. holds l n) c.new.ensures.empty ∙ holds-nil n
