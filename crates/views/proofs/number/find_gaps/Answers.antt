use Rattle.std.proofs.Common.{ap, ◌∙◌, map, subst}
use Rattle.std.specs.Map.Iter.{deref_pair}
use Rattle.inbox.specs.Kept.{events}
use Rattle.views.specs.steps.Gaps.{AreGapsOf}
use Rattle.views.proofs.GapLemmas.{gaps_from}
use Rattle.views.proofs.number.find_gaps.Goals as goal

pub returns : goal.returns
returns c =
    let rows = c.in_ok-gaps_of.field-0 in
    gaps_from (events c.args.inbox.now) c.in_ok-summary.summary rows c.in_ok-summary.ensures.exact c.entries.ensures.summary
    (subst (λ es. AreGapsOf es rows) (ap (map deref_pair) c.deref.ensures.value ∙ c.in_ok-entries.ensures.entries) c.in_ok-gaps_of.ensures)
