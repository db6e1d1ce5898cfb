use Rattle.std.proofs.Common.{◌∷◌, ◌++◌, [], sym, ap, ◌∙◌}
use Rattle.std.proofs.lemmas.Result.{err_from_is_err_and}
use Rattle.site.proofs.PageLemmas.{page_next, page_some}
use Rattle.site.proofs.site.Site.arrivals_after.Goals as goal

pub returns-in_err-push-clause-err : goal.returns-in_err-push-clause-err
returns-in_err-push-clause-err c =
    let exit = err_from_is_err_and c.from_residual-in_err-push.result c.from_residual-in_err-push.ensures.1 in
    rw exit.1 (page_some c.args.self.now c.args.n c.loop-k.k c.args.limit c.arrived_at.result.now c.arrived_at.ensures c.requires.low)

pub loop-k-preserved : goal.loop-k-preserved
loop-k-preserved c =
    c.in_ok-push.ensures.ok ∙ ap (λ e. c.loop-k.batch ++ e ∷ []) c.in_ok-copy.ensures ∙ ap (λ l. l ++ c.arrived_at.result.now ∷ []) c.loop-k.invariant
    ∙ sym (page_next c.args.self.now c.args.n c.loop-k.k c.arrived_at.result.now c.arrived_at.ensures)
