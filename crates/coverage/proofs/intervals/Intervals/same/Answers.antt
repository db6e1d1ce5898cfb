use Rattle.std.proofs.Common.{sym, ap, ◌∙◌}
use Rattle.std.specs.Cmp.{unsigned_Decides}
use Rattle.std.proofs.lemmas.Map.Lookups.{btree_map_eq-Decides}
use Rattle.coverage.specs.Intervals.{holds, rises_from}
use Rattle.coverage.proofs.HoldsLemmas.{same_numbers-same}
use Rattle.coverage.proofs.intervals.Intervals.same.Goals as goal

pub returns-clause-equal : goal.returns-clause-equal
returns-clause-equal c =
    let same = btree_map_eq-Decides unsigned_Decides unsigned_Decides c.self.inside.starts c.other.inside.starts c.eq.result c.eq.ensures in
    (λ t. sym c.self.view_is ∙ same.0 t ∙ c.other.view_is, λ e. same.1 (c.self.view_is ∙ e ∙ sym c.other.view_is))

pub returns-clause-numbers : goal.returns-clause-numbers
returns-clause-numbers c =
    let same = btree_map_eq-Decides unsigned_Decides unsigned_Decides c.self.inside.starts c.other.inside.starts c.eq.result c.eq.ensures in (
      λ t n. ap (λ l. holds l n) (sym c.self.view_is ∙ same.0 t ∙ c.other.view_is),
      λ numbers. same.1 (c.self.view_is
          ∙ same_numbers-same c.args.self.now c.args.other.now (ap (rises_from 1) (sym c.self.view_is) ∙ c.self.invariant) (ap (rises_from 1) (sym c.other.view_is) ∙ c.other.invariant) numbers
          ∙ sym c.other.view_is),
    )
