use Rattle.std.proofs.Common.{sym, ap, subst, ◌∙◌}
use Rattle.coverage.specs.Numbers.{AreListed, holds_in}
use Rattle.coverage.specs.steps.Entries.{sources_in}
use Rattle.coverage.proofs.HoldsLemmas.{holds-nil}
use Rattle.coverage.proofs.EntriesLemmas.{InOrder-nil}
use Rattle.coverage.proofs.numbers.Numbers.empty.Goals as goal

pub invariant_of-result : goal.invariant_of-result
invariant_of-result c = subst AreListed (sym (ap sources_in c.new.ensures.empty)) (tt, InOrder-nil)

pub returns-clause-members : goal.returns-clause-members
returns-clause-members c = λ s m. ap (λ l. holds_in l s m) (ap sources_in c.new.ensures.empty) ∙ holds-nil m

pub returns-clause-entries : goal.returns-clause-entries
returns-clause-entries c = ap sources_in c.new.ensures.empty

pub returns-clause-summary : goal.returns-clause-summary
returns-clause-summary c = subst AreListed (sym (ap sources_in c.new.ensures.empty)) (tt, InOrder-nil)
