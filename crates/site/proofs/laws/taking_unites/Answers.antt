use Rattle.std.proofs.Common.{◌||◌, sym, ap, ap₂, ◌∙◌}
use Rattle.inbox.specs.KeyOrder.{key_cmp}
use Rattle.inbox.specs.Ordered.{append_new, has}
use Rattle.inbox.specs.Sets.{set_of}
use Rattle.site.proofs.laws.taking_unites.Goals as goal

pub returns : goal.returns
returns c A L a b =
    let sets = c.sets_are_members.ensures in
    let unite = c.arrivals_unite.ensures A L a b in
    record {
      members = λ e. sym (sets.members (append_new key_cmp A L) e) ∙ ap (λ E. has key_cmp E e) unite ∙ c.unions_are_sets.ensures.members (set_of A) (set_of L) e ∙ ap₂ (λ x y. x || y) (sets.members A e) (sets.members L e);
      set = unite;
    }
