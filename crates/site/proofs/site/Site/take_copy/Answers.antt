use Rattle.std.proofs.Common.{ap, is_ok, sym, ◌∙◌}
use Rattle.inbox.specs.KeyOrder.{key_cmp}
use Rattle.inbox.specs.Ordered.{has}
use Rattle.site.proofs.site.Site.take_copy.Goals as goal

pub returns-in_default-clause-set : goal.returns-in_default-clause-set
returns-in_default-clause-set c =
    c.sets_are_members.ensures.again c.args.self.now c.args.event.now
    (ap (λ A. has key_cmp A c.args.event.now) (sym c.self.view_is) ∙ sym c.place_of.ensures.known ∙ ap is_ok c.in_default.is)
