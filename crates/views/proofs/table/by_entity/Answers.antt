use Rattle.std.proofs.Common.{◌≡◌, map, take, sym, ap, ◌∙◌}
use Rattle.std.specs.Prelude.{Some, None}
use Rattle.std.specs.Option.{option_map, option_copied}
use Rattle.attributes.specs.Event.{source_of}
use Rattle.views.specs.Latest.{greater, number_cmp, entity_of}
use Rattle.views.specs.steps.Rows.{latest_rows}
use Rattle.views.proofs.LatestLemmas.{best_step, rows-skip}
use Rattle.views.proofs.OrderLemmas.{entity_cmp_total}
use Rattle.views.proofs.StepLemmas.{map_take}
use Rattle.views.proofs.table.by_entity.Goals.{in-Some+in_ok-insert-in-Some, in-None}
use Rattle.views.proofs.table.by_entity.Goals as goal

pub loop-event-preserved : goal.loop-event-preserved
loop-event-preserved c =
    let list = c.args.list.now in
    let i = c.loop-event.event-index in
    let item = c.event-item.result in
    let e = c.event.result.now in
    let xs = map (λ b. b.now) (take i list) in
    let more = map_take (λ b. b.now) list i item c.loop-event-test.true c.event-item.is in
    elim c.match-subject.branch [
      | in-Some+in_ok-insert-in-Some w ↦
          let own : entity_of item.now ≡ Some (w.source.result.now, w.in-Some.subject.now) =
          ap entity_of (sym c.event.ensures) ∙ ap (option_map (λ s. (source_of e, s))) (sym c.subject.ensures ∙ ap option_copied w.in-Some.is)
          ∙ ap (λ s. Some (s, w.in-Some.subject.now)) (sym (w.source.ensures.value ∙ ap source_of (w.event-in-Some.ensures ∙ sym c.event.ensures))) in
          let winner = w.later-latest.ensures ∙ ap (λ m. greater number_cmp m item.now) (ap option_copied (w.copied.ensures ∙ w.get.ensures.value)) in
          ap (λ t. map (λ e. ((e.0.0.now, e.0.1.now), Some e.1.now)) t.entries) w.table-is
          ∙ ap (map (λ e. ((e.0.0.now, e.0.1.now), Some e.1.now))) w.in_ok-insert-in-Some.ensures.entries
          ∙ best_step entity_cmp_total number_cmp entity_of (λ k. (k.0.now, k.1.now)) (λ b. b.now) c.loop-event.table.entries (w.source.result, w.in-Some.subject) w.later-latest.result xs item.now c.loop-event.invariant own winner
          ∙ ap latest_rows (sym more)
      | in-None w ↦
          let none : entity_of item.now ≡ None = ap entity_of (sym c.event.ensures) ∙ ap (option_map (λ s. (source_of e, s))) (sym c.subject.ensures ∙ ap option_copied w.in-None.is) in
          ap (λ t. map (λ e. ((e.0.0.now, e.0.1.now), Some e.1.now)) t.entries) w.table-is ∙ c.loop-event.invariant
          ∙ rows-skip entity_cmp_total number_cmp entity_of xs item.now none
          ∙ ap latest_rows (sym more)
    ]
