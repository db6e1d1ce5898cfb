use Rattle.std.proofs.Common.{◌≡◌}
use Rattle.serde_json.specs.View.{view, members_view}
use Rattle.coverage.specs.SummaryShape.{is_object_of_blocks, are_block_lists}
use Rattle.coverage.proofs.numbers.shape.is_object_of_blocks.Given as goal

abbrev pub invariant-loop-list : goal.invariant-loop-list
invariant-loop-list l = is_object_of_blocks (view l.value) ≡ are_block_lists (members_view l.list-iterator)
