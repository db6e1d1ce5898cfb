use Rattle.std.proofs.Common.{ap, is_ok, sym, ◌∙◌}
use Rattle.inbox.specs.KeyOrder.{key_cmp}
use Rattle.inbox.specs.Ordered.{has}
use Rattle.inbox.specs.Sets.{set_of, union}
use Rattle.site.proofs.TakeLemmas.{take_next}
use Rattle.site.proofs.site.Site.take_next.Goals as goal

pub returns-in_default-clause-set : goal.returns-in_default-clause-set
returns-in_default-clause-set c =
    let A = c.args.self.now in
    let e = c.at.result.now in
    c.sets_are_members.ensures.again A e (ap (λ B. has key_cmp B e) (sym c.self.view_is) ∙ sym c.place_of.ensures.known ∙ ap is_ok c.in_default.is)
    ∙ sym (ap (union (set_of A)) (take_next c.args.batch.now 0 e c.at.ensures))
