use Rattle.std.proofs.Common.{ap, ◌∙◌}
use Rattle.std.proofs.lemmas.Bool.{both_ways}
use Rattle.coverage.specs.Intervals.{holds}
use Rattle.coverage.proofs.HoldsLemmas.{holds-nil}
use Rattle.coverage.proofs.summary.Summary.wants_none_beside.Goals as goal

pub returns-in_default-of_source : goal.returns-in_default-of_source
returns-in_default-of_source c = λ _ n k held. absurd (both_ways _ (ap (λ l. holds l n) c.in_default-of_source.ensures.numbers ∙ holds-nil n) held)
