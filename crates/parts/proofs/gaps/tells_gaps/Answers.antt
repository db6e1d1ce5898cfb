use Rattle.std.proofs.Common.{◌∙◌, subst, sym, true≢false}
use Rattle.std.proofs.lemmas.Slice.Eq.{bytes_eq-Decides}
use Rattle.views.specs.Question.{IsAnswer}
use Rattle.views.specs.declared.query.Query.TheVariants as query
use Rattle.parts.proofs.gaps.tells_gaps.Goals as goal

pub returns-clause-some : goal.returns-clause-some
returns-clause-some c h E sums =
    let same = (bytes_eq-Decides c.as_str.result.now c.args.text.now).0 (sym c.eq.ensures ∙ h) in
    subst (IsAnswer query.Gaps E) (sym c.as_str.ensures ∙ same) (c.in_ok-own.ensures E sums)

pub returns-clause-none : goal.returns-clause-none
returns-clause-none c h E sums answer =
    let same = c.answers_are_alike.ensures.one query.Gaps E c.in_ok-own.own c.args.text.now (c.in_ok-own.ensures E sums) answer in
    true≢false (sym ((bytes_eq-Decides c.as_str.result.now c.args.text.now).1 (c.as_str.ensures ∙ same)) ∙ sym c.eq.ensures ∙ h)
