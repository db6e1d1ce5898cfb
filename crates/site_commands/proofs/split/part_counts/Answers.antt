use Rattle.std.proofs.Common.{ap, ◌∙◌}
use Rattle.site_commands.proofs.SplitLemmas.{count_more}
use Rattle.site_commands.specs.Splits.{part_name}
use Rattle.site_commands.proofs.split.part_counts.Goals as goal

pub loop-i-preserved : goal.loop-i-preserved
loop-i-preserved c = λ events are.
    c.in_ok-push.ensures.ok
    ∙ count_more c.args.plan.now events c.args.parts.now c.loop-i.i c.index-parts-i.result c.loop-i.rows c.in_ok-name.name c.len.result are c.loop-i-test.true
    c.index-parts-i.is (c.loop-i.invariant events are) (c.in_ok-name.ensures ∙ ap (λ p. part_name p c.loop-i.i) c.as_str.ensures) c.len.ensures
