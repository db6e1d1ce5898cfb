use Rattle.std.proofs.Common.{◌+◌, ◌++◌, ◌∙◌, ap, sym}
use Rattle.inbox_table.specs.steps.Turns.{params_of}
use Rattle.inbox_table.proofs.InsertLemmas.{numbered_next, params_next}
use Rattle.inbox_table.proofs.statement.values_of.Goals as goal

pub loop-i-preserved : goal.loop-i-preserved
loop-i-preserved g c =
    let L = g.E.Listed.listed c.args.events.now in
    let e = c.lent.result.now in (
      c.in_ok-push_values.ensures.values ∙ ap (λ ps. ps ++ params_of (c.args.place + c.loop-i.i) e) c.loop-i.invariant.0 ∙ sym (params_next c.args.place c.args.from c.loop-i.i L e c.lent.ensures),
      numbered_next c.args.from c.loop-i.i L e c.lent.ensures c.loop-i.invariant.1 c.push_values.ensures.numbered,
    )
