use Rattle.std.proofs.Common.{◌≡◌, true, Some, sym, ◌∙◌, subst}
use Rattle.std.specs.BTreeSet.{contains}
use Rattle.std.specs.Ordering.{nat_cmp}
use Rattle.site.proofs.AmongLemmas.{once_at}
use Rattle.site.proofs.site.among.add_place.Goals as goal

pub returns-clause-added : goal.returns-clause-added
returns-clause-added c = λ e i came stands.
    let same : Some c.arrived_at.result.now ≡ Some e = sym c.arrived_at.ensures ∙ came in
    let there = c.in-Ok.ensures.there ∙ same in
    let one : i ≡ c.in-Ok.at = once_at c.sets_are_members.ensures c.args.inbox.now.arrivals i c.in-Ok.at e stands there in
    subst (λ q. contains nat_cmp c.insert.new.self q ≡ true) (sym one) c.in_ok-insert.ensures.updates.1
