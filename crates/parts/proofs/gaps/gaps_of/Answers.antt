use Rattle.std.proofs.Common.{◌++◌, [], ◌∷◌, map, take, sym, subst}
use Rattle.std.specs.Map.Iter.{deref_pair}
use Rattle.views.specs.steps.Gaps.{AreGapsOf}
use Rattle.views.proofs.GapLemmas.{rows_more}
use Rattle.views.proofs.StepLemmas.{map_take}
use Rattle.parts.proofs.gaps.gaps_of.Goals as goal

pub loop-entry-preserved : goal.loop-entry-preserved
loop-entry-preserved c =
    let xs = c.args.entries.now in
    let i = c.loop-entry.entry-index in
    let item = c.entry-item.result in
    let added = c.in_ok-add_gaps.ensures in
    let before = map deref_pair (take i xs) in
    subst (λ es. AreGapsOf es c.add_gaps.new.rows) (sym (map_take deref_pair xs i item c.loop-entry-test.true c.entry-item.is))
    (subst (λ rows. AreGapsOf (before ++ deref_pair item ∷ []) rows) (sym added.2)
    (rows_more before c.loop-entry.rows (deref_pair item) added.0 c.loop-entry.invariant added.1))
