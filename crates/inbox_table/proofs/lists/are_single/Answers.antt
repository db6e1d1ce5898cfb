use Rattle.std.proofs.Common.{◌∙◌, sym}
use Rattle.inbox_table.proofs.ListsLemmas.{single_next}
use Rattle.inbox_table.proofs.lists.are_single.Goals as goal

pub loop-i-preserved : goal.loop-i-preserved
loop-i-preserved c = single_next c.args.from c.loop-i.i c.args.lists.now c.at.result.now c.at.ensures c.loop-i.invariant (sym c.len.ensures ∙ c.if-len-ne1.false)
