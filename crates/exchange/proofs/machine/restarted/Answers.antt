use Rattle.std.proofs.Common.{◌++◌, [], ◌∷◌, sym, ap, ◌∙◌}
use Rattle.exchange.proofs.TransferLemmas.{take_next}
use Rattle.exchange.proofs.machine.restarted.Goals as goal

pub loop-i-preserved : goal.loop-i-preserved
loop-i-preserved c =
    c.in_ok-push.ensures.ok ∙ ap (λ e. c.loop-i.batch ++ e ∷ []) c.in_ok-copy.ensures ∙ ap (λ l. l ++ c.arrived_at.result.now ∷ []) c.loop-i.invariant
    ∙ sym (take_next c.args.host.now.site c.loop-i.i c.arrived_at.result.now c.arrived_at.ensures)
