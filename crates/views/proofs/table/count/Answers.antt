use Rattle.std.proofs.Common.{◌≡◌, ◌+◌, ◌∙◌, refl, sym, ap, subst, IsSome, Some}
use Rattle.std.specs.BTreeMap.{get, insert_entry}
use Rattle.std.specs.Option.{option_copied_mut, option_map_or}
use Rattle.views.proofs.TableLemmas.{set_is_insert}
use Rattle.views.proofs.table.count.Goals as goal

pub returns-in-Some : goal.returns-in-Some
returns-in-Some g c =
    let table = c.args.table.now in
    let count = c.in-Some.count.now in
    let found : get g.K.Ord.cmp table c.args.key ≡ Some count = sym c.get_mut.ensures.value ∙ ap option_copied_mut c.in-Some.is in
    (c.get_mut.follows.holds (count + 1)).0
    ∙ set_is_insert c.requires.ordered c.args.key (count + 1) table.entries c.get_mut.ensures.ordered (subst IsSome (sym found) refl)
    ∙ ap (λ o. insert_entry g.K.Ord.cmp table.entries c.args.key (option_map_or (λ n. n) o 0 + 1)) (sym found)
