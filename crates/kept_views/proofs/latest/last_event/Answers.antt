use Rattle.std.proofs.Common.{arith, sym, ◌∙◌}
use Rattle.std.proofs.lemmas.Option.{slice_get_past}
use Rattle.kept_views.specs.steps.Seen.{rank_in}
use Rattle.kept_views.proofs.LatestLemmas.{last_rank, top_found}
use Rattle.kept_views.proofs.TableLemmas.{row_seen}
use Rattle.kept_views.specs.steps.Seen.{rows_in}
use Rattle.kept_views.proofs.latest.last_event.Goals as goal

pub returns-then-place-arrived : goal.returns-then-place-arrived
returns-then-place-arrived c =
    let k = c.in_ok-place.field-0-0.now in
    let p = c.in_ok-place.place.now in
    sym (top_found c.args.inbox.now.arrivals (rows_in c.args.rows.now) (rank_in k) p (last_rank c.args.rows.now.entries k p c.len-len.ensures.ordered c.in_ok-place.ensures.last)
    (row_seen c.args.rows.now (rank_in k) ∙ c.in_ok-place.ensures.value) ∙ c.arrived_at.ensures)

pub returns-else-place-arrived : goal.returns-else-place-arrived
returns-else-place-arrived c =
    let k = c.in_ok-place.field-0-0.now in
    let p = c.in_ok-place.place.now in
    sym (top_found c.args.inbox.now.arrivals (rows_in c.args.rows.now) (rank_in k) p (last_rank c.args.rows.now.entries k p c.len-len.ensures.ordered c.in_ok-place.ensures.last)
    (row_seen c.args.rows.now (rank_in k) ∙ c.in_ok-place.ensures.value) ∙ slice_get_past c.args.inbox.now.arrivals p (omega (arith, c.if-place-arrived.false, c.arrived.ensures.count)))
