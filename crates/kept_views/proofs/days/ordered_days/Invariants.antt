use Rattle.std.proofs.Common.{◌≡◌, [], map}
use Rattle.views.specs.Tally.{day_cmp}
use Rattle.kept_views.specs.steps.Rows.{put_all}
use Rattle.kept_views.specs.steps.Seen.{days_in}
use Rattle.kept_views.proofs.days.ordered_days.Given as goal

abbrev pub invariant-loop-day : goal.invariant-loop-day
invariant-loop-day l = put_all day_cmp (map (λ e. ((e.0.0.now, e.0.1), e.1)) l.table.entries) (days_in l.day-iterator) ≡ put_all day_cmp [] (days_in l.days.entries)
