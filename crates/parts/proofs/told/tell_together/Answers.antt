use Rattle.std.proofs.Common.{map}
use Rattle.parts.proofs.ToldLemmas.{told_together}
use Rattle.parts.proofs.told.tell_together.Goals as goal

pub returns-clause-combined : goal.returns-clause-combined
returns-clause-combined c =
    told_together c.args.query (map (λ t. t.now) c.args.answers.now) _ _ c.in_ok-answer_lines.field-0 c.in_ok-gathered.ensures.ok c.in_ok-answer_lines.ensures.lines
