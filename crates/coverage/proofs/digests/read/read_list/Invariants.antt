use Rattle.std.proofs.Common.{drop}
use Rattle.serde_json.specs.View.{items_view}
use Rattle.coverage.proofs.ReadDigestsLemmas.{ReadsUpTo}
use Rattle.coverage.proofs.digests.read.read_list.Given as goal

abbrev pub invariant-loop-item : goal.invariant-loop-item
invariant-loop-item l = ReadsUpTo (items_view l.list) l.blocks.entries (items_view (drop l.item-index l.list))
