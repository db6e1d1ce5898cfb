use Rattle.std.proofs.Common.{◌∷◌, ◌++◌, [], ap, ◌∙◌, sym}
use Rattle.site.proofs.TakeLemmas.{take_next}
use Rattle.site.proofs.site.lent.Lent.copied.Goals as goal

pub loop-i-preserved : goal.loop-i-preserved
loop-i-preserved c =
    c.in_ok-push.ensures.ok ∙ ap (λ e. c.loop-i.batch ++ e ∷ []) c.in_ok-copy.ensures ∙ ap (λ l. l ++ c.at.result.now ∷ []) c.loop-i.invariant
    ∙ sym (take_next c.args.self.now c.loop-i.i c.at.result.now c.at.ensures)
