use Rattle.std.proofs.Common.{ap, sym, ◌∙◌, ◌&&◌}
use Rattle.serde_json.specs.View.{view}
use Rattle.coverage.specs.SummaryShape.{is_object_of_lists}
use Rattle.coverage.proofs.ShapeLemmas.{and_first, not_three, three_with_both}
use Rattle.coverage.proofs.numbers.shape.is_shaped_with_blocks.Goals as goal

pub returns-then-len-ne3 : goal.returns-then-len-ne3
returns-then-len-ne3 c = not_three _ c.in-Some.members.now.entries c.in-Some.ensures (λ is. c.if-len-ne3.true (c.len.ensures.len ∙ is))

pub returns-then-is_object_of_blocks : goal.returns-then-is_object_of_blocks
returns-then-is_object_of_blocks c =
    c.is_object_of_lists.ensures ∙ ap (λ b. b && is_object_of_lists (view c.in-Some-Some.sources.now)) c.if-is_object_of_blocks.ensures
    ∙ three_with_both _ c.in-Some.members.now.entries _ _ c.in-Some.ensures (sym c.len.ensures.len ∙ c.if-len-ne3.false) c.in-Some-Some.ensures c.in-Some-Some.ensures'

pub returns-else-is_object_of_blocks : goal.returns-else-is_object_of_blocks
returns-else-is_object_of_blocks c =
    c.is_object_of_blocks.ensures ∙ and_first _ (is_object_of_lists (view c.in-Some-Some.sources.now)) c.if-is_object_of_blocks.ensures
    ∙ three_with_both _ c.in-Some.members.now.entries _ _ c.in-Some.ensures (sym c.len.ensures.len ∙ c.if-len-ne3.false) c.in-Some-Some.ensures c.in-Some-Some.ensures'
