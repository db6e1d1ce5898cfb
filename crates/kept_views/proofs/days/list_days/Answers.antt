use Rattle.std.proofs.Common.{◌∙◌}
use Rattle.kept_views.specs.steps.Seen.{days_in}
use Rattle.kept_views.proofs.DayLemmas.{no_days, none_in}
use Rattle.kept_views.proofs.days.list_days.Goals as goal

pub returns-then-is_empty-clause-rows : goal.returns-then-is_empty-clause-rows
returns-then-is_empty-clause-rows c = λ shown counts.
    c.empty.ensures ∙ no_days shown (days_in c.args.days.now.entries) counts (none_in c.args.days.now.entries (c.is_empty.ensures.0 c.if-is_empty.true))
