use Rattle.std.proofs.Common.{min, ◌+◌, ◌-◌, ◌^◌, ap, ◌∙◌}
use Rattle.inbox_table.proofs.ListsLemmas.{length_next}
use Rattle.inbox_table.proofs.lists.length_of.Goals as goal

pub loop-i-preserved : goal.loop-i-preserved
loop-i-preserved c =
    length_next c.args.lists.now c.loop-i.i c.at.result.now c.loop-i.length c.saturating_add-length.result c.at.ensures c.loop-i.invariant
    (c.saturating_add-length.ensures ∙ ap (λ n. min (c.loop-i.length + n) (2 ^ 64 - 1)) c.len.ensures)
