use Rattle.std.proofs.Common.{[], ◌∷◌, ◌++◌, drop, map, sym, ap, ◌∙◌}
use Rattle.std.proofs.lemmas.List.{map-append}
use Rattle.inbox.specs.Kept.{events}
use Rattle.views.proofs.StepLemmas.{slice_get_behind, take_next}
use Rattle.views.proofs.view.lent_from.Goals as goal

pub loop-k-preserved : goal.loop-k-preserved
loop-k-preserved c =
    let E = events c.args.inbox.now in
    ap (map (λ e. e.now)) c.in_ok-push.ensures.items ∙ map-append (λ e. e.now) c.loop-k.list.items (c.at.result ∷ [])
    ∙ ap (λ l. l ++ c.at.result.now ∷ []) c.loop-k.invariant
    ∙ sym (take_next (drop c.args.i E) c.loop-k.k c.at.result.now (slice_get_behind E c.args.i c.loop-k.k c.at.result.now c.at.ensures))
