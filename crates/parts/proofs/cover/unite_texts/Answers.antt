use Rattle.std.proofs.Common.{map, refl, subst}
use Rattle.views.specs.declared.query.Query.TheVariants as query
use Rattle.views.specs.declared.query.Answer.TheVariants as answer
use Rattle.parts.specs.Combined.{AreApart, HoldsUnion}
use Rattle.parts.proofs.WholeLemmas.{sums}
use Rattle.parts.proofs.cover.unite_texts.Goals as goal

pub returns-clause-combined : goal.returns-clause-combined
returns-clause-combined c p E answers =
    let summaries = c.in_ok-summaries.summaries.items in
    let all = c.in_ok-all.all in
    let united = subst (λ l. HoldsUnion l all) c.deref-2.ensures.value c.in_ok-all.ensures.united in
    c.answers_are_alike.ensures.written query.Cover E (answer.Cover all) c.in_ok-print.field-0 refl
    (sums c.texts_tell_summaries.ensures p E (map (λ t. t.now) c.args.covers.now) answers summaries c.in_ok-summaries.ensures.read all c.in_ok-all.ensures.first united)
    c.in_ok-print.ensures.lines

pub returns-clause-apart : goal.returns-clause-apart
returns-clause-apart c = (c.in_ok-summaries.summaries.items, c.in_ok-summaries.ensures.read, subst AreApart c.deref.ensures.value c.in_ok-check_apart.ensures.apart)
