use Rattle.std.proofs.Common.{◌≡◌, drop}
use Rattle.serde_json.specs.View.{view, items_view}
use Rattle.coverage.specs.SummaryShape.{is_list_of_pairs, are_pairs}
use Rattle.coverage.proofs.numbers.shape.is_list_of_pairs.Given as goal

abbrev pub invariant-loop-item : goal.invariant-loop-item
invariant-loop-item l = is_list_of_pairs (view l.value) ≡ are_pairs (items_view (drop l.item-index l.item-items))
