use Rattle.std.proofs.Common.{◌∷◌, ◌++◌, [], sym, ap, ◌∙◌}
use Rattle.inbox.specs.Sets.{set_of}
use Rattle.site.proofs.PageLemmas.{page_next}
use Rattle.site.proofs.site.Site.copies.Goals as goal

pub loop-k-preserved : goal.loop-k-preserved
loop-k-preserved c =
    c.in_ok-push.ensures.ok ∙ ap (λ e. c.loop-k.batch ++ e ∷ []) c.in_ok-copy.ensures ∙ ap (λ l. l ++ c.at.result.now ∷ []) c.loop-k.invariant
    ∙ sym (page_next (set_of c.args.self.now) c.args.place c.loop-k.k c.at.result.now c.at.ensures)
