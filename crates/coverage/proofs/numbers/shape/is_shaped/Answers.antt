use Rattle.std.proofs.Common.{sym, ◌∙◌}
use Rattle.coverage.proofs.ShapeLemmas.{not_two, two_with_sources}
use Rattle.coverage.proofs.numbers.shape.is_shaped.Goals as goal

pub returns-then-len-ne2 : goal.returns-then-len-ne2
returns-then-len-ne2 c = not_two _ c.in-Some.members.now.entries c.in-Some.ensures (λ two. c.if-len-ne2.true (c.len.ensures.len ∙ two))

pub returns-in-Some-get : goal.returns-in-Some-get
returns-in-Some-get c =
    c.is_object_of_lists.ensures ∙ two_with_sources _ c.in-Some.members.now.entries _ c.in-Some.ensures (sym c.len.ensures.len ∙ c.if-len-ne2.false) c.in-Some-get.ensures
