use Rattle.std.proofs.Common.{◌∙◌, ◌++◌, ◌∷◌, [], ap, map, subst, sym, take}
use Rattle.std.specs.Result.{IfErr}
use Rattle.std.proofs.lemmas.Result.{err_from_is_err_and}
use Rattle.std.proofs.lemmas.Cmp.{nat_list_cmp_total, on_total}
use Rattle.std.proofs.lemmas.List.{take_more}
use Rattle.std.proofs.lemmas.Map.Lookups.{exact_bytes}
use Rattle.attributes.specs.Bytes.{byte_cmp}
use Rattle.parts.specs.Counts.{RefusesSums}
use Rattle.parts.specs.Merge.{added}
use Rattle.parts.proofs.CountLemmas.{add_step, sum_refused}
use Rattle.parts.proofs.kinds.sum_kinds.Goals as goal

pub add-requires : goal.add-requires
add-requires c = record { ordered = on_total (λ b. b.now) nat_list_cmp_total }

pub loop-row-preserved : goal.loop-row-preserved
loop-row-preserved c =
    let rows = c.args.rows.now in
    let i = c.loop-row.row-index in
    let row = c.row-item.result in
    ap (map (λ e. (e.0.now, e.1))) c.in_ok-add.ensures.entries
    ∙ add_step nat_list_cmp_total exact_bytes (λ b. b.now) c.loop-row.table.entries c.as_str.result row.1 (take i rows) c.loop-row.invariant
    ∙ ap (λ k. added byte_cmp (take i rows ++ (k, row.1) ∷ [])) c.as_str.ensures
    ∙ sym (ap (added byte_cmp) (take_more rows i row c.loop-row-test.true ∙ ap (λ r. take i rows ++ r ∷ []) (sym c.row-item.is)))

pub returns-in_err-add-clause-err : goal.returns-in_err-add-clause-err
returns-in_err-add-clause-err c =
    let rows = c.args.rows.now in
    let i = c.loop-row.row-index in
    let row = c.row-item.result in
    let next = take_more rows i row c.loop-row-test.true ∙ ap (λ r. take i rows ++ r ∷ []) (sym c.row-item.is) ∙ ap (λ k. take i rows ++ (k, row.1) ∷ []) (sym c.as_str.ensures) in
    let exit = err_from_is_err_and c.from_residual.result c.from_residual.ensures.1 in
    subst (λ r. IfErr r (RefusesSums byte_cmp rows)) (sym exit.1)
    (subst (RefusesSums byte_cmp rows) (sym exit.2)
    (sum_refused nat_list_cmp_total exact_bytes (λ b. b.now) c.loop-row.table.entries c.as_str.result row.1 rows i c.loop-row.invariant next c.in_err-add.field-0.0 c.in_err-add.ensures.err))
