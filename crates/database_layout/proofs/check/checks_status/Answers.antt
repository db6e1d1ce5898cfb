use Rattle.std.proofs.Common.{◌≡◌, [], ◌∷◌, sym, subst, ◌∙◌}
use Rattle.sqlite_schema.specs.Code.{terms_in}
use Rattle.database_layout.specs.Tables.{is_status}
use Rattle.database_layout.proofs.TermLemmas.{one_check}
use Rattle.database_layout.proofs.check.checks_status.Goals as goal

pub returns : goal.returns
returns c h =
    let ops : c.as_slice-ops.result.now ≡ c.terms.inside.nodes = c.as_slice-ops.ensures in
    let roots : c.terms.inside.roots ≡ c.in-Some.at ∷ [] = sym c.as_slice.ensures ∙ c.in-Some.ensures in
    sym c.terms.view_is ∙ subst (λ n. terms_in n c.terms.inside.roots ≡ is_status 2 ∷ []) ops
    (one_check c.as_slice-ops.result.now c.terms.inside.roots c.in-Some.at (is_status 2) c.if-ops-lt3.false roots (c.is_status.ensures h))
