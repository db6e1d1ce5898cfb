use Rattle.std.proofs.Common.{map}
use Rattle.std.proofs.lemmas.Result.{IfOk-weaker}
use Rattle.parts.proofs.DayLemmas.{days_together}
use Rattle.parts.proofs.days.combine_days.Goals as goal

pub returns-clause-combined : goal.returns-clause-combined
returns-clause-combined c p E small answers =
    IfOk-weaker c.sum_answers.result _ _ (days_together c.exact_json_reads_back.ensures p E small (map (λ t. t.now) c.args.answers.now) answers) c.sum_answers.ensures.summed
