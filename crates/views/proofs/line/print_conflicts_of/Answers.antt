use Rattle.std.proofs.Common.{◌<◌, [], ◌∷◌, ◌++◌, filter, map, take, Result, Ok, Err, sym, ap, ◌∙◌, subst}
use Rattle.std.proofs.lemmas.Grind.{flat_map-append}
use Rattle.std.proofs.lemmas.List.{map-append}
use Rattle.std.proofs.lemmas.List.Elements.{filter-append}
use Rattle.std.specs.Result.{OnErr}
use Rattle.inbox.proofs.KeyLemmas.{some_kept}
use Rattle.inbox.specs.Conflicts.{conflict_of, conflicts_of, is_first_of_several}
use Rattle.inbox.specs.Kept.{events}
use Rattle.views.specs.Line.{conflict_line, conflict_lines}
use Rattle.views.proofs.StepLemmas.{item_at, take_next}
use Rattle.views.proofs.line.print_conflicts_of.Goals as goal

pub loop-i-preserved : goal.loop-i-preserved
loop-i-preserved c =
    let E = events c.args.inbox.now in
    let i = c.loop-i.i in
    let here = item_at E i (subst (λ n. i < n) c.len-i-end.ensures c.loop-i-test.true) in
    c.in_ok-add_conflict_at.ensures.line here.0 here.1
    ∙ ap (λ l. l ++ conflict_lines (conflicts_of E (here.0 ∷ []))) c.loop-i.invariant
    ∙ sym (ap (λ l. conflict_lines (conflicts_of E l)) (take_next E i here.0 here.1)
    ∙ ap (λ l. conflict_lines (map (conflict_of E) l)) (filter-append (is_first_of_several E) (take i E) (here.0 ∷ []))
    ∙ ap conflict_lines (map-append (conflict_of E) (filter (is_first_of_several E) (take i E)) (filter (is_first_of_several E) (here.0 ∷ [])))
    ∙ flat_map-append conflict_line (conflicts_of E (take i E)) (conflicts_of E (here.0 ∷ [])))

wanted : {T E : Type 0} (r : Result T E) (P : Type 0) → P → OnErr r P
wanted (Ok t) P p = tt
wanted (Err e) P p = p

pub returns-in_err-add_conflict_at-clause-err : goal.returns-in_err-add_conflict_at-clause-err
returns-in_err-add_conflict_at-clause-err c =
    let E = events c.args.inbox.now in
    let here = item_at E c.loop-i.i (subst (λ n. c.loop-i.i < n) c.len-i-end.ensures c.loop-i-test.true) in
    wanted c.from_residual.result _ (some_kept (conflict_of E) (is_first_of_several E) E c.loop-i.i here.0 here.1 (c.in_err-add_conflict_at.ensures.err here.0 here.1))
