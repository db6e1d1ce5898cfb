use Rattle.std.proofs.Common.{◌∙◌}
use Rattle.coverage.proofs.ShapeLemmas.{pair-wrong_length}
use Rattle.coverage.proofs.numbers.shape.interval_in.Goals as goal

pub returns-then-len-ne2 : goal.returns-then-len-ne2
returns-then-len-ne2 c =
    pair-wrong_length _ c.in-Some.pair.now.items c.in-Some.ensures (λ two. c.if-len-ne2.true (c.len.ensures ∙ c.in-Some.pair.now.ok.0 ∙ two))
