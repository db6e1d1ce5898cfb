use Rattle.std.proofs.Common.{◌≡◌, map, take}
use Rattle.std.specs.Prelude.{Some}
use Rattle.views.specs.steps.Rows.{latest_rows}
use Rattle.views.proofs.table.by_entity.Given as goal

abbrev pub invariant-loop-event : goal.invariant-loop-event
invariant-loop-event l = map (λ e. ((e.0.0.now, e.0.1.now), Some e.1.now)) l.table.entries ≡ latest_rows (map (λ e. e.now) (take l.event-index l.list))
