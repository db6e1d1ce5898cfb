use Rattle.std.proofs.Common.{◌≡◌, drop}
use Rattle.serde_json.specs.View.{view, items_view}
use Rattle.coverage.specs.SummaryShape.{is_list_of_blocks, are_blocks}
use Rattle.coverage.proofs.numbers.shape.is_list_of_blocks.Given as goal

abbrev pub invariant-loop-item : goal.invariant-loop-item
invariant-loop-item l = is_list_of_blocks (view l.value) ≡ are_blocks (items_view (drop l.item-index l.item-items))
