use Rattle.std.proofs.Common.{◌≡◌, map, take}
use Rattle.views.specs.Tally.{day_cmp}
use Rattle.parts.specs.Merge.{added}
use Rattle.parts.proofs.days.sum_days.Given as goal

abbrev pub invariant-loop-row : goal.invariant-loop-row
invariant-loop-row l = map (λ e. ((e.0.0.now, e.0.1), e.1)) l.table.entries ≡ added day_cmp (take l.row-index l.rows)
