use Rattle.std.proofs.Common.{◌∙◌, ap, map, subst}
use Rattle.std.specs.Map.Iter.{deref_pair}
use Rattle.std.proofs.lemmas.Result.{IfOk-weaker}
use Rattle.views.specs.steps.Gaps.{AreGapsOf}
use Rattle.views.proofs.GapLemmas.{gaps_from}
use Rattle.parts.proofs.gaps.gaps_text.Goals as goal

pub returns : goal.returns
returns c =
    let rows = c.in_ok-rows.rows in
    let own = subst (λ es. AreGapsOf es rows) (ap (map deref_pair) c.deref.ensures.value ∙ c.in_ok-entries.ensures.entries) c.in_ok-rows.ensures in
    IfOk-weaker c.print.result _ _ (λ t lines E sums. (rows, gaps_from E c.args.summary.now rows sums.exact sums.in_form own, lines)) c.print.ensures.lines
