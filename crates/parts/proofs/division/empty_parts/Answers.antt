use Rattle.std.proofs.Common.{◌<◌, ◌+◌, [], ◌∷◌, ◌++◌, get_or, sym, ◌∙◌, ap, subst, Some, arith}
use Rattle.std.proofs.lemmas.Option.{slice_get-get_or}
use Rattle.parts.proofs.DivisionLemmas.{one_more}
use Rattle.parts.proofs.division.empty_parts.Goals as goal

pub loop-i-preserved : goal.loop-i-preserved
loop-i-preserved c =
    let parts = c.loop-i.parts in
    let len = sym parts.ok.0 ∙ c.loop-i.invariant.0 in (
      c.in_ok-push.ensures.len ∙ ap (λ n. n + 1) c.loop-i.invariant.0,
      λ k lt. ap (λ xs. get_or xs k []) (c.in_ok-push.ensures.items ∙ ap (λ e. parts.items ++ e ∷ []) c.empty.ensures) ∙ one_more parts.items c.loop-i.i len c.loop-i.invariant.1 k lt,
    )

pub returns-clause-parts : goal.returns-clause-parts
returns-clause-parts c i lt =
    let parts = c.loop-i.parts in
    let below : i < c.loop-i.i = omega (arith, lt, c.loop-i-test.false) in
    slice_get-get_or parts.items i [] (subst (λ n. i < n) (sym c.loop-i.invariant.0 ∙ parts.ok.0) below) ∙ ap Some (c.loop-i.invariant.1 i below)
