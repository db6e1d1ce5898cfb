use Rattle.std.proofs.Common.{◌<◌, ◌++◌, [], ◌∷◌, map, sym, ap, ◌∙◌, subst}
use Rattle.std.proofs.lemmas.List.{map-append}
use Rattle.inbox.specs.Shown.{is_shown}
use Rattle.inbox.specs.Kept.{events}
use Rattle.views.proofs.StepLemmas.{filter_kept, filter_left_out, item_at}
use Rattle.views.proofs.view.shown_events.Goals.{then-is_shown+in_ok-push, else-is_shown}
use Rattle.views.proofs.view.shown_events.Goals as goal

pub loop-i-preserved : goal.loop-i-preserved
loop-i-preserved c =
    let E = events c.args.inbox.now in
    elim c.if-is_shown.branch [
      | then-is_shown+in_ok-push w ↦
          ap (λ v. map (λ e. e.now) v.items) w.list-is ∙ ap (map (λ e. e.now)) w.in_ok-push.ensures.items ∙ map-append (λ e. e.now) c.loop-i.list.items (w.at.result ∷ [])
          ∙ ap (λ l. l ++ w.at.result.now ∷ []) c.loop-i.invariant
          ∙ sym (filter_kept (is_shown E) E c.loop-i.i w.at.result.now w.at.ensures (sym (c.is_shown.ensures _ w.at.ensures) ∙ w.if-is_shown.true))
      | else-is_shown w ↦
          let here = item_at E c.loop-i.i (subst (λ n. c.loop-i.i < n) c.len-i-end.ensures c.loop-i-test.true) in
          ap (λ v. map (λ e. e.now) v.items) w.list-is ∙ c.loop-i.invariant
          ∙ sym (filter_left_out (is_shown E) E c.loop-i.i here.0 here.1 (sym (c.is_shown.ensures here.0 here.1) ∙ w.if-is_shown.false))
    ]
