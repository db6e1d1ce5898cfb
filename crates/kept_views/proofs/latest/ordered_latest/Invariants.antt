use Rattle.std.proofs.Common.{◌≡◌, [], map, Some}
use Rattle.std.specs.Prelude.{filter_map}
use Rattle.views.specs.Latest.{entity_cmp}
use Rattle.kept_views.specs.steps.Latest.{latest_row}
use Rattle.kept_views.specs.steps.Rows.{put_all}
use Rattle.kept_views.specs.steps.Seen.{entities_in}
use Rattle.kept_views.proofs.latest.ordered_latest.Given as goal

abbrev pub invariant-loop-rows : goal.invariant-loop-rows
invariant-loop-rows l =
    put_all entity_cmp (map (λ e. ((e.0.0.now, e.0.1.now), Some e.1.now)) l.latest.entries) (filter_map (latest_row l.inbox.arrivals) (entities_in l.rows-iterator))
    ≡ put_all entity_cmp [] (filter_map (latest_row l.inbox.arrivals) (entities_in l.entities.entries))
