use Rattle.std.proofs.Common.{[], ◌∷◌, subst, true}
use Rattle.site_commands.proofs.SplitLemmas.{file_more, stopped}
use Rattle.site_commands.specs.Outputs.{GrewBy}
use Rattle.site_commands.specs.Splits.{file_of}
use Rattle.site_commands.specs.steps.Splits.{RefusesFile}
use Rattle.site_commands.proofs.split.save_parts.Goals as goal

pub returns-in-Err-clause-err : goal.returns-in-Err-clause-err
returns-in-Err-clause-err g c = λ events are.
    let before = g.W.Outputs.outputs c.loop-i.outputs in let after = g.W.Outputs.outputs c.save_part.new.outputs in
    let refused = subst (λ p. RefusesFile p c.loop-i.i c.index-parts-i.result before after c.in-Err.fault) c.as_str.ensures c.in-Err.ensures.err in
    stopped c.args.plan.now events c.args.parts.now c.loop-i.i c.index-parts-i.result (g.W.Outputs.outputs c.args.outputs.now) before after c.in-Err.fault are
    c.loop-i-test.true c.index-parts-i.is (c.loop-i.invariant events are) refused

pub loop-i-preserved : goal.loop-i-preserved
loop-i-preserved g c = λ events are.
    let before = g.W.Outputs.outputs c.loop-i.outputs in let after = g.W.Outputs.outputs c.save_part.new.outputs in
    let file = subst (λ p. GrewBy before after (file_of p c.loop-i.i c.index-parts-i.result true ∷ [])) c.as_str.ensures c.in-Ok.ensures.ok in
    file_more c.args.plan.now events c.args.parts.now c.loop-i.i c.index-parts-i.result (g.W.Outputs.outputs c.args.outputs.now) before after are
    c.loop-i-test.true c.index-parts-i.is (c.loop-i.invariant events are) file
