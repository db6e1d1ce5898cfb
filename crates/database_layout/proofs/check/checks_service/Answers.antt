use Rattle.std.proofs.Common.{◌≡◌, [], ◌∷◌, IsTrue, rules, pos, sym, subst, ◌∙◌}
use Rattle.sqlite_value.specs.declared.value.Value.TheVariants.{Int}
use Rattle.sqlite_value.specs.declared.keys.Collation.TheVariants.{Binary}
use Rattle.sqlite_sql.specs.Term.{lit, col, op2}
use Rattle.sqlite_sql.specs.declared.ops.BinaryOp.TheVariants.{Compare}
use Rattle.sqlite_sql.specs.declared.ops.CompareOp.TheVariants.{Eq, Ge}
use Rattle.sqlite_schema.specs.Code.{terms_in}
use Rattle.database_layout.proofs.TermLemmas.{two_checks}
use Rattle.database_layout.proofs.check.checks_service.Goals as goal

pub returns : goal.returns
returns c h =
    let ops : c.as_slice-ops.result.now ≡ c.terms.inside.nodes = c.as_slice-ops.ensures in
    let roots : c.terms.inside.roots ≡ c.in-Some.one ∷ c.in-Some.base ∷ [] = sym c.as_slice.ensures ∙ search rules in
    let left : IsTrue c.is_compare.result = search rules in
    sym c.terms.view_is ∙ subst (λ n. terms_in n c.terms.inside.roots ≡ op2 (Compare Eq Binary) (col 1 0) (lit (Int (pos 1))) ∷ op2 (Compare Ge Binary) (col 1 3) (lit (Int (pos 0))) ∷ []) ops
    (two_checks c.as_slice-ops.result.now c.terms.inside.roots c.in-Some.one c.in-Some.base _ _ c.if-ops-lt3.false roots (c.is_compare.ensures left) (c.is_compare-2.ensures h))
