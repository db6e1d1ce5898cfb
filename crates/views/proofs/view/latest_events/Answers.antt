use Rattle.std.proofs.Common.{map, ap, ◌∙◌}
use Rattle.inbox.specs.Shown.{shown}
use Rattle.inbox.specs.Kept.{events}
use Rattle.views.specs.Latest.{latest_of, entities_of}
use Rattle.views.specs.steps.Rows.{latest_rows}
use Rattle.views.proofs.LatestLemmas.{values_of_rows}
use Rattle.views.proofs.view.latest_events.Goals as goal

pub returns : goal.returns
returns c =
    let E = events c.args.inbox.now in
    c.in_ok-latest_in_order.ensures
    ∙ values_of_rows (λ e. (e.0.0.now, e.0.1.now)) (λ e. e.1.now) (latest_of (shown E)) c.in_ok-table.table.entries (entities_of (shown E))
    (c.in_ok-table.ensures ∙ ap latest_rows (ap (map (λ e. e.now)) c.deref.ensures.value ∙ c.in_ok-shown.ensures))
