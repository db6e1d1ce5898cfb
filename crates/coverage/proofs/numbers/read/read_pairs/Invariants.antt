use Rattle.std.proofs.Common.{drop}
use Rattle.serde_json.specs.View.{items_view}
use Rattle.coverage.proofs.ReadLemmas.{ReadsUpTo}
use Rattle.coverage.proofs.numbers.read.read_pairs.Given as goal

abbrev pub invariant-loop-item : goal.invariant-loop-item
invariant-loop-item l = ReadsUpTo (items_view l.list) l.pairs.items l.from (items_view (drop l.item-index l.list))
