use Rattle.std.proofs.Common.{[], ◌∷◌, ◌++◌, map, sym, ap, ◌∙◌}
use Rattle.std.proofs.lemmas.List.{map-append}
use Rattle.views.proofs.StepLemmas.{take_next}
use Rattle.views.proofs.view.lent.Goals as goal

pub loop-i-preserved : goal.loop-i-preserved
loop-i-preserved c =
    ap (map (λ e. e.now)) c.in_ok-push.ensures.items ∙ map-append (λ e. e.now) c.loop-i.list.items (c.at.result ∷ [])
    ∙ ap (λ l. l ++ c.at.result.now ∷ []) c.loop-i.invariant
    ∙ sym (take_next c.args.batch.now c.loop-i.i c.at.result.now c.at.ensures)
