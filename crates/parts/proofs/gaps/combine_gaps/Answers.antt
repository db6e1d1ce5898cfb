use Rattle.std.proofs.Common.{map, subst}
use Rattle.parts.specs.Combined.{HoldsUnion}
use Rattle.parts.specs.Gaps.{AreGapTexts}
use Rattle.parts.proofs.WholeLemmas.{sums}
use Rattle.parts.proofs.gaps.combine_gaps.Goals as goal

pub returns-clause-combined : goal.returns-clause-combined
returns-clause-combined c p E are =
    let all = c.in_ok-all.all in
    let united = subst (λ l. HoldsUnion l all) c.deref-2.ensures.value c.in_ok-all.ensures.united in
    c.in_ok-gaps_text.ensures E
    (sums c.texts_tell_summaries.ensures p E (map (λ t. t.now) c.args.covers.now) are c.in_ok-summaries.summaries.items c.in_ok-summaries.ensures.read all c.in_ok-all.ensures.first united)

pub returns-clause-told : goal.returns-clause-told
returns-clause-told c = (
  c.in_ok-summaries.summaries.items,
  c.in_ok-summaries.ensures.read,
  subst (AreGapTexts (map (λ t. t.now) c.args.answers.now)) c.deref.ensures.value c.in_ok-check_gaps.ensures.told,
)
