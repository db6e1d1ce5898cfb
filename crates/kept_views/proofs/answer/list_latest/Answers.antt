use Rattle.std.proofs.Common.{List, ℕ, ◌∙◌, Bor}
use Rattle.attributes.specs.Event.{EventValue}
use Rattle.inbox.specs.Kept.{events}
use Rattle.inbox.specs.Shown.{shown}
use Rattle.views.specs.Latest.{latest_of, entities_of}
use Rattle.views.proofs.LatestLemmas.{values_of_rows}
use Rattle.kept_views.specs.steps.Seen.{entities_in}
use Rattle.kept_views.proofs.LatestLemmas.{latest_listed}
use Rattle.kept_views.proofs.answer.list_latest.Goals as goal

pub returns : goal.returns
returns c = λ rows each.
    let S = shown (events c.args.inbox.now) in
    c.in_ok-copied.ensures
    ∙ values_of_rows (λ (e : (Bor (List ℕ) × Bor (List ℕ)) × Bor EventValue). (e.0.0.now, e.0.1.now)) (λ (e : (Bor (List ℕ) × Bor (List ℕ)) × Bor EventValue). e.1.now) (latest_of S) c.in_ok-table.table.entries (entities_of S)
    (c.in_ok-table.ensures.rows ∙ latest_listed c.args.inbox.now.arrivals (entities_in c.args.entities.now.entries) rows each c.in_ok-table.ensures.distinct c.arrived-arrived.ensures.events c.latest_are_greatest.ensures c.latest_are_one.ensures.each c.latest_are_one.ensures.one)
